-- A word as a reader of little-endian numbers finds it.
use Rattle.std.proofs.Common.{◌≡◌, ℕ, zero, suc, ◌+◌, ◌-◌, ◌*◌, ◌≤◌, List, [], ◌∷◌, length, take, drop, refl, ap, ◌∙◌, arith, slice_index, length-drop}
use Rattle.std.proofs.lemmas.List.{take_rest}
use Rattle.byteorder.specs.Endian.{little_from, little_number}
use Rattle.layout.specs.Bytes.{value, word}

past_first : (i n x : ℕ) (xs : List ℕ) → little_from (suc i) n (x ∷ xs) ≡ little_from i n xs
past_first i zero x xs = refl
past_first i (suc n) x xs = ap (λ m. slice_index xs i + 256 * m) (past_first (suc i) n x xs)

number_value : (n : ℕ) (xs : List ℕ) → n ≤ length xs → little_number n xs ≡ value (take n xs)
number_value zero xs fits = refl
number_value (suc n) [] fits = absurd (omega arith)
number_value (suc n) (x ∷ xs) fits = ap (λ m. x + 256 * m) (past_first 0 n x xs ∙ number_value n xs (omega arith))

-- the number of so many bytes behind a place is the word there
pub number_word : (width at : ℕ) (b : List ℕ) → at + width ≤ length b → little_number width (take (length b - at) (drop at b)) ≡ word width b at
number_word width at b fits =
    let behind = take_rest b at in
    ap (little_number width) behind ∙ number_value width (drop at b) (omega (arith, length-drop at b))
