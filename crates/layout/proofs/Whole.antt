-- A file in which nothing is wrong is the file of the plan that a reader finds in it.
use Rattle.std.proofs.Common.{◌≡◌, ℕ, ◌+◌, ◌*◌, ◌<◌, ◌≤◌, Bool, true, false, cond, not, ◌&&◌, ◌||◌, eqb, ltb, List, ◌++◌, length, Some, None, Option, sym, refl, ap, ◌∙◌, arith}
use Rattle.std.proofs.lemmas.List.FromFn.{length-map-range_with_len}
use Rattle.std.proofs.lemmas.List.{take_all}
use Rattle.std.proofs.lemmas.Bool.{or_parts, not-false, ltb-false, eqb-true}
use Rattle.std.specs.List.{range_with_len, flat_map}
use Rattle.items.specs.Conditions.{outside, some_above}
use Rattle.layout.specs.declared.FileFault.{FileFault}
use Rattle.layout.specs.declared.FileFault.TheVariants.{Length, Sizes, BitTime}
use Rattle.layout.specs.Bytes.{laid, part, word}
use Rattle.layout.specs.Format.{first_word, second_word, first_record, second_record, file_of, size_of}
use Rattle.layout.specs.Reading.{resources_in, items_in, bits_of, first_at, second_at, on_bus, work_by, item_in, items_of, head_fault, descends, has_spare, bad_record}
use Rattle.layout.specs.Stands.{Bytes}
use Rattle.layout.proofs.Bytes.{part_add, length_part, part_word}
use Rattle.layout.proofs.Arrays.{joined_parts, joined_map}

-- a test that is passed over
passed : (t : Bool) (fault : FileFault) (rest : Option FileFault) → cond t (Some fault) rest ≡ None → (t ≡ false) × (rest ≡ None)
passed true fault rest e = let z : ◌≡◌ {A = ℕ} 0 1 = cc in absurd (omega arith)
passed false fault rest e = (refl, e)

-- what a good head means
pub record GoodHead (b : List ℕ) : Type 0 where
  pub long : 4 ≤ length b
  pub sized : (outside 1 16 (resources_in b) || ltb 256 (items_in b)) ≡ false
  pub whole : length b ≡ size_of (resources_in b) (items_in b)
  pub bits : some_above 100 (bits_of b) ≡ false

pub good_head : (b : List ℕ) → head_fault b ≡ None → GoodHead b
good_head b e =
    let short = passed (ltb (length b) 4) Length _ e in
    let sizes = passed (outside 1 16 (resources_in b) || ltb 256 (items_in b)) Sizes _ short.1 in
    let length-test = passed (not (eqb (length b) (size_of (resources_in b) (items_in b)))) Length _ sizes.1 in
    let bits = passed (some_above 100 (bits_of b)) BitTime None length-test.1 in
    record {
      long = ltb-false (length b) 4 short.0;
      sized = sizes.0;
      whole = eqb-true (length b) (size_of (resources_in b) (items_in b)) (not-false _ length-test.0);
      bits = bits.0;
    }

-- the words that were read say the work again, if a frame has no second one
first_again : (bus : Bool) (first second : ℕ) → first_word (work_by bus first second) ≡ first
first_again true first second = refl
first_again false first second = refl

second_again : (bus : Bool) (first second : ℕ) → (bus && not (eqb second 0)) ≡ false → second_word (work_by bus first second) ≡ second
second_again true first second none = sym (eqb-true second 0 (not-false (eqb second 0) none))
second_again false first second none = refl

module _ (b : List ℕ) (small : Bytes b) (whole : length b ≡ size_of (resources_in b) (items_in b)) where
  -- four words of one width in a row
  four_words : (width at second third fourth : ℕ) → second ≡ at + width → third ≡ second + width → fourth ≡ third + width → fourth + width ≤ length b
      → part at (width + (width + (width + width))) b ≡ laid width (word width b at) ++ (laid width (word width b second) ++ (laid width (word width b third) ++ laid width (word width b fourth)))
  four_words width at second third fourth next then last within =
      part_add b at width (width + (width + width))
      ∙ ap (λ l. part at width b ++ l) (ap (λ m. part m (width + (width + width)) b) (sym next) ∙ part_add b second width (width + width))
      ∙ ap (λ l. part at width b ++ (part second width b ++ l)) (ap (λ m. part m (width + width) b) (sym then) ∙ part_add b third width width)
      ∙ ap (λ m. part at width b ++ (part second width b ++ (part third width b ++ part m width b))) (sym last)
      ∙ (λ i. part_word b at width small (omega arith) i ++ (part_word b second width small (omega arith) i ++ (part_word b third width small (omega arith) i ++ part_word b fourth width small (omega arith) i)))

  module _ (k : ℕ) (within : k < items_in b) where
    first_again_at : part (first_at b k) 8 b ≡ first_record (item_in b k)
    first_again_at =
        let at = first_at b k in
        four_words 2 at (at + 2) (at + 4) (at + 6) refl (omega arith) (omega arith) (omega arith)

    second_again_at : has_spare b k ≡ false → part (second_at b k) 16 b ≡ second_record (item_in b k)
    second_again_at none =
        let at = second_at b k in
        four_words 4 at (at + 4) (at + 8) (at + 12) refl (omega arith) (omega arith) (omega arith)
        ∙ sym (λ i. laid 4 (first_again (on_bus b k) (word 4 b at) (word 4 b (at + 4)) i) ++ (laid 4 (second_again (on_bus b k) (word 4 b at) (word 4 b (at + 4)) none i) ++ (laid 4 (word 4 b (at + 8)) ++ laid 4 (word 4 b (at + 12)))))

  -- the whole file
  pub file_again : ((k : ℕ) → k < items_in b → bad_record b k ≡ false) → b ≡ file_of (bits_of b) (items_of b)
  file_again good =
      let n = resources_in b in
      let m = items_in b in
      let spare : (k : ℕ) → k < m → has_spare b k ≡ false = λ k within. (or_parts _ (has_spare b k) (or_parts (descends b k) _ (good k within)).1).1 in
      let size : length b ≡ 2 + (2 + (n + (8 * m + 16 * m))) = whole ∙ omega arith in
      let bits_long : length (bits_of b) ≡ n = length_part b 4 n (omega arith) in
      let items_long : length (items_of b) ≡ m = length-map-range_with_len (item_in b) 0 m in
      let start : 4 + n + 8 * 0 ≡ 4 + n = omega arith in
      let start_second : 4 + n + 8 * m + 16 * 0 ≡ 4 + n + 8 * m = omega arith in
      let firsts : part (4 + n) (8 * m) b ≡ flat_map first_record (items_of b) =
      ap (λ at. part at (8 * m) b) (sym start) ∙ joined_parts b (λ k. first_record (item_in b k)) 8 (4 + n) 0 m (λ k below. first_again_at k (omega arith)) ∙ sym (joined_map first_record (item_in b) (range_with_len 0 m)) in
      let seconds : part (4 + n + 8 * m) (16 * m) b ≡ flat_map second_record (items_of b) =
      ap (λ at. part at (16 * m) b) (sym start_second) ∙ joined_parts b (λ k. second_record (item_in b k)) 16 (4 + n + 8 * m) 0 m (λ k below. second_again_at k (omega arith) (spare k (omega arith))) ∙ sym (joined_map second_record (item_in b) (range_with_len 0 m)) in
      sym (take_all (length b) b (omega arith))
      ∙ ap (λ k. part 0 k b) size
      ∙ part_add b 0 2 (2 + (n + (8 * m + 16 * m)))
      ∙ ap (λ l. part 0 2 b ++ l) (part_add b 2 2 (n + (8 * m + 16 * m)) ∙ ap (λ l. part 2 2 b ++ l) (part_add b 4 n (8 * m + 16 * m) ∙ ap (λ l. bits_of b ++ l) (part_add b (4 + n) (8 * m) (16 * m) ∙ (λ i. firsts i ++ seconds i))))
      ∙ (λ i. part_word b 0 2 small (omega arith) i ++ (part_word b 2 2 small (omega arith) i ++ (bits_of b ++ (flat_map first_record (items_of b) ++ flat_map second_record (items_of b)))))
      ∙ sym (λ i. laid 2 (bits_long i) ++ (laid 2 (items_long i) ++ (bits_of b ++ (flat_map first_record (items_of b) ++ flat_map second_record (items_of b)))))
