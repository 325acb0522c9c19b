-- A file that is written piece by piece: the sizes, the bit times, the first array, the second.
use Rattle.std.proofs.Common.{◌≡◌, ℕ, ◌+◌, ◌≤◌, List, ◌++◌, length, ap, ◌∙◌, subst, append_assoc, arith, length-append}
use Rattle.std.specs.List.{flat_map}
use Rattle.items.specs.declared.Item.{Item}
use Rattle.buffers.specs.Fronts.{Pasted, Filled}
use Rattle.buffers.proofs.Fronts.{filled_from, pasted_more}
use Rattle.layout.specs.Bytes.{laid}
use Rattle.layout.specs.Format.{first_record, second_record, file_of}

module _ (bits : List ℕ) (xs : List Item) where
  -- the file has these pieces
  pub length_file : length (file_of bits xs) ≡ 4 + length bits + length (flat_map first_record xs) + length (flat_map second_record xs)
  length_file =
      omega (arith, length-append bits (flat_map first_record xs ++ flat_map second_record xs), length-append (flat_map first_record xs) (flat_map second_record xs))

  -- put into a buffer, each behind the one before, they make up the file
  pub filled_file : (old first second third new : List ℕ) (sizes : List ℕ) (e1 e2 e3 : ℕ) → sizes ≡ laid 2 (length bits) ++ laid 2 (length xs) → e1 ≡ 0 + length sizes → e2 ≡ e1 + length bits → e3 ≡ e2 + length (flat_map first_record xs) → Pasted 0 sizes old first → Pasted e1 bits first second → Pasted e2 (flat_map first_record xs) second third → Pasted e3 (flat_map second_record xs) third new → Filled (file_of bits xs) old new
  filled_file old first second third new sizes e1 e2 e3 are at1 at2 at3 one two three four =
      let firsts = flat_map first_record xs in
      let seconds = flat_map second_record xs in
      let low : 0 ≤ length old = omega arith in
      let with_bits = pasted_more 0 e1 old first second sizes bits low at1 one two in
      let with_firsts = pasted_more 0 e2 old second third (sizes ++ bits) firsts low (omega (arith, length-append sizes bits)) with_bits three in
      let all = pasted_more 0 e3 old third new ((sizes ++ bits) ++ firsts) seconds low (omega (arith, length-append sizes bits, length-append (sizes ++ bits) firsts)) with_firsts four in
      let whole : ((sizes ++ bits) ++ firsts) ++ seconds ≡ file_of bits xs =
      append_assoc (sizes ++ bits) firsts seconds ∙ append_assoc sizes bits (firsts ++ seconds) ∙ ap (λ l. l ++ (bits ++ (firsts ++ seconds))) are in
      subst (λ l. Filled l old new) whole (filled_from _ old new all)
