-- Where a predecessor stands: what a search by its number finds, and that its period is the follower's.
use Rattle.std.proofs.Common.{◌≡◌, ℕ, zero, suc, ◌<◌, ◌≤◌, List, [], length, Some, None, Ok, Err, Option, Result, sym, ap, ◌∙◌, subst, ⊎_elim, not-suc-le-zero, arith}
use Rattle.std.specs.List.Sorted.{IsSearchInRange, IsBinarySearchResult, IsNonDecreasingBy}
use Rattle.std.specs.Ordering.{nat_cmp, ordering_index}
use Rattle.std.specs.Result.{result_ok}
use Rattle.std.proofs.lemmas.Bool.{eq-eqb, ne_eqb, cases_lt}
use Rattle.std.proofs.lemmas.Option.{same_Some}
use Rattle.std.proofs.lemmas.Bool.Decides.{nat_tests}
use Rattle.std.proofs.lemmas.Cmp.{ranked}
use Rattle.std.proofs.lemmas.List.Sorted.{IsNonDecreasingBy-from_default}
use Rattle.items.specs.declared.Item.{Item}
use Rattle.items.specs.Items.{no_item, item_at}
use Rattle.items.specs.Valid.{Valid}
use Rattle.tables.specs.Demands.{period_within, period_of, place_of}
use Rattle.tables.proofs.Chains.{Link, head_or_link, no_head, same_number, place_found, period_head, period_link}
use Rattle.consult.specs.Chains.{link_of}

module _ (bits : List ℕ) (xs : List Item) (valid : Valid bits xs) where
  -- what its bit times allow without items
  pub valid_none : Valid bits []
  valid_none = record {
    resources_low = valid.resources_low;
    resources_high = valid.resources_high;
    bit_times = valid.bit_times;
    size = omega arith;
    each = λ k h. absurd (omega arith);
    ascending = λ j k l h. absurd (omega arith);
    apart = λ j k h l r p. absurd (omega arith);
    linked = λ k h ne. absurd (omega arith);
  }

  pub head_link : (k : ℕ) → (item_at xs k).predecessor ≡ 0 → link_of xs (item_at xs k) ≡ None
  head_link k z = rw (eq-eqb (item_at xs k).predecessor 0 z)

  pub link_place : (k : ℕ) (l : Link xs k) → place_of (item_at xs k).predecessor xs ≡ l.at
  link_place k l = ap (λ (n : ℕ). place_of n xs) l.is ∙ place_found xs valid.ascending l.at l.below

  pub follower_link : (k : ℕ) (l : Link xs k) → link_of xs (item_at xs k) ≡ Some l.at
  follower_link k l = rw (ne_eqb (item_at xs k).predecessor 0 (no_head bits xs valid l.at k l.below l.is)) (ap Some (link_place k l))

  -- the comparisons with a number rise along the items, as a binary search asks
  comparisons_rise : (n : ℕ) → IsNonDecreasingBy (λ (x : Item). ordering_index (nat_cmp x.number n)) xs
  comparisons_rise n = IsNonDecreasingBy-from_default (λ (x : Item). ordering_index (nat_cmp x.number n)) xs no_item (λ i j le in_range.
      let rise : (item_at xs i).number ≤ (item_at xs j).number = grind (arith, valid.ascending i j, λ (same : i ≡ j). ap (λ (k : ℕ). (item_at xs k).number) same) in
      grind (arith, nat_tests))

  pub searched : (k : ℕ) → k < length xs → (r : Result ℕ ℕ) → IsSearchInRange r (length xs) → IsBinarySearchResult (λ (x : Item). nat_cmp x.number (item_at xs k).predecessor) xs r → result_ok r ≡ link_of xs (item_at xs k)
  searched k h (Ok at) within equal =
      let here : (item_at xs at).number ≡ (item_at xs k).predecessor = ranked _ (item_at xs k).predecessor _ (sym (equal no_item)) in
      ⊎_elim
      (λ z. absurd (let low = (valid.each at within).number_low in omega arith))
      (λ l. ap Some (same_number bits xs valid at l.at within l.below (here ∙ l.is)) ∙ sym (follower_link k l))
      (head_or_link bits xs valid k h)
  searched k h (Err at) within parted =
      ⊎_elim
      (λ z. sym (head_link k z))
      (λ l. absurd (
      ⊎_elim
      (λ before. let less = ranked _ (item_at xs k).predecessor _ (sym ((parted (comparisons_rise (item_at xs k).predecessor)).0 l.at no_item (omega arith) before)) in omega (arith, less, l.is))
      (λ behind. let more = ranked _ (item_at xs k).predecessor _ (sym ((parted (comparisons_rise (item_at xs k).predecessor)).1 l.at no_item behind l.below)) in omega (arith, more, l.is))
      (cases_lt l.at at)))
      (head_or_link bits xs valid k h)

  -- more steps than items stand below lead to one period
  fuel : (n m k : ℕ) → k < n → k < m → k < length xs → period_within n xs (Some (item_at xs k)) ≡ period_within m xs (Some (item_at xs k))
  fuel zero m k ln lm h = absurd (not-suc-le-zero ln)
  fuel (suc n) zero k ln lm h = absurd (not-suc-le-zero lm)
  fuel (suc n) (suc m) k ln lm h =
      ⊎_elim
      (λ z. period_head bits xs valid n k z ∙ sym (period_head bits xs valid m k z))
      (λ l.
      period_link bits xs valid n k l
      ∙ (fuel n m l.at (omega (arith, l.earlier)) (omega (arith, l.earlier)) l.below
      ∙ sym (period_link bits xs valid m k l)))
      (head_or_link bits xs valid k h)

  within_head : (n k : ℕ) → k < n → (item_at xs k).predecessor ≡ 0 → period_within n xs (Some (item_at xs k)) ≡ (item_at xs k).period
  within_head zero k lt z = absurd (not-suc-le-zero lt)
  within_head (suc n) k lt z = period_head bits xs valid n k z

  within_link : (n k : ℕ) → k < n → (l : Link xs k) → period_within n xs (Some (item_at xs k)) ≡ period_of xs (item_at xs l.at)
  within_link zero k lt l = absurd (not-suc-le-zero lt)
  within_link (suc n) k lt l = period_link bits xs valid n k l ∙ fuel n (length xs) l.at (omega (arith, l.earlier)) l.below l.below

  -- an item with no link is a head, which has its own period
  pub own_period : (k : ℕ) → k < length xs → link_of xs (item_at xs k) ≡ None → period_of xs (item_at xs k) ≡ (item_at xs k).period
  own_period k h none =
      ⊎_elim
      (λ z. within_head (length xs) k h z)
      (λ l. absurd (let e : ◌≡◌ {A = Option ℕ} None (Some l.at) = sym none ∙ follower_link k l in cc e))
      (head_or_link bits xs valid k h)

  -- any other has that of the item where its link leads, which stands lower
  pub record Before (k at : ℕ) : Type 0 where
    pub earlier : at < k
    pub is : (item_at xs k).predecessor ≡ (item_at xs at).number
    pub period : period_of xs (item_at xs k) ≡ period_of xs (item_at xs at)

  pub before : (k at : ℕ) → k < length xs → link_of xs (item_at xs k) ≡ Some at → Before k at
  before k at h some =
      ⊎_elim
      (λ z. absurd (let e : ◌≡◌ {A = Option ℕ} None (Some at) = sym (head_link k z) ∙ some in cc e))
      (λ l.
      let same : l.at ≡ at = same_Some l.at at (sym (follower_link k l) ∙ some) in
      subst (Before k) same (record { earlier = l.earlier; is = l.is; period = within_link (length xs) k h l }))
      (head_or_link bits xs valid k h)

  -- a link leads to a place in the front
  pub place_low : (k at : ℕ) → k < length xs → link_of xs (item_at xs k) ≡ Some at → at < 256
  place_low k at h some = omega (arith, (before k at h some).earlier, valid.size)
