-- A valid plan's chains: numbers find their items, every item but a head comes after its predecessor, and its jobs keep the distance of its head's.
use Rattle.std.proofs.Common.{◌≡◌, ℕ, zero, suc, ◌+◌, ◌<◌, ◌≤◌, min, true, false, eqb, ◌⊎◌, List, [], ◌∷◌, length, take, Some, sym, refl, ap, ◌∙◌, inl, inr, ⊎_elim, le_of_suc-le-suc, not-suc-le-zero, arith, length-take, get_or-take}
use Rattle.std.proofs.lemmas.Bool.{eq-eqb, ne_eqb, eqb-true, or_cases, cases_eq, cases_order, false≢true}
use Rattle.service.specs.declared.Record.{Record}
use Rattle.service.specs.Traces.{Trace}
use Rattle.items.specs.declared.Item.{Item}
use Rattle.items.specs.Items.{no_item, item_at, item_of}
use Rattle.items.specs.Conditions.{stands}
use Rattle.items.specs.Valid.{Valid}
use Rattle.tables.specs.Demands.{Span, place_of, period_within, period_of}
use Rattle.tables.specs.Runs.{Allowed}

abbrev pub Ascending : List Item → Type 0
Ascending xs = (j k : ℕ) → j < k → k < length xs → (item_at xs j).number < (item_at xs k).number

tail_ascending : (x : Item) (xs : List Item) → Ascending (x ∷ xs) → Ascending xs
tail_ascending x xs up j k h l = up (suc j) (suc k) (omega arith) (omega arith)

pub item_found : (xs : List Item) → Ascending xs → (j : ℕ) → j < length xs → item_of (item_at xs j).number xs ≡ Some (item_at xs j)
item_found [] up j h = absurd (not-suc-le-zero h)
item_found (x ∷ xs) up zero h = rw (eq-eqb x.number x.number refl)
item_found (x ∷ xs) up (suc j) h =
    let less : x.number < (item_at xs j).number = up 0 (suc j) (omega arith) h in
    let differ : eqb x.number (item_at xs j).number ≡ false = ne_eqb _ _ (λ e. omega arith) in
    rw differ (item_found xs (tail_ascending x xs up) j (le_of_suc-le-suc h))

pub place_found : (xs : List Item) → Ascending xs → (j : ℕ) → j < length xs → place_of (item_at xs j).number xs ≡ j
place_found [] up j h = absurd (not-suc-le-zero h)
place_found (x ∷ xs) up zero h = rw (eq-eqb x.number x.number refl)
place_found (x ∷ xs) up (suc j) h =
    let less : x.number < (item_at xs j).number = up 0 (suc j) (omega arith) h in
    let differ : eqb x.number (item_at xs j).number ≡ false = ne_eqb _ _ (λ e. omega arith) in
    rw differ (ap suc (place_found xs (tail_ascending x xs up) j (le_of_suc-le-suc h)))

-- an item that stands has a place
pub stands_at : (n : ℕ) (xs : List Item) → stands n xs ≡ true → (j : ℕ) × ((j < length xs) × ((item_at xs j).number ≡ n))
stands_at n [] h = absurd (false≢true h)
stands_at n (x ∷ xs) h =
    ⊎_elim
    (λ here. (0, (omega arith, eqb-true x.number n here)))
    (λ there. let s = stands_at n xs there in (suc s.0, (omega (arith, s.1.0), s.1.1)))
    (or_cases (eqb x.number n) (stands n xs) h)

-- the predecessor of the item at k
pub record Link (xs : List Item) (k : ℕ) : Type 0 where
  pub at : ℕ
  pub earlier : at < k
  pub below : at < length xs
  pub is : (item_at xs k).predecessor ≡ (item_at xs at).number

module _ (bits : List ℕ) (xs : List Item) (valid : Valid bits xs) where
  -- no number stands twice
  pub same_number : (j k : ℕ) → j < length xs → k < length xs → (item_at xs j).number ≡ (item_at xs k).number → j ≡ k
  same_number j k hj hk e =
      ⊎_elim
      (λ same. same)
      (⊎_elim (λ less. absurd (omega (arith, valid.ascending j k less hk))) (λ less. absurd (omega (arith, valid.ascending k j less hj))))
      (cases_order j k)

  -- an item is a head, or comes after its predecessor
  pub head_or_link : (k : ℕ) → k < length xs → ((item_at xs k).predecessor ≡ 0) ⊎ Link xs k
  head_or_link k h = ⊎_elim inl (λ ne. inr (found (stands_at _ _ (valid.linked k h ne)))) (cases_eq (item_at xs k).predecessor 0)
    where
      found : ((j : ℕ) × ((j < length (take k xs)) × ((item_at (take k xs) j).number ≡ (item_at xs k).predecessor))) → Link xs k
      found s =
          let least : length (take k xs) ≡ min k (length xs) = length-take k xs in
          let lt : s.0 < k = omega (arith, s.1.0) in
          let same : item_at (take k xs) s.0 ≡ item_at xs s.0 = get_or-take k xs s.0 no_item lt in
          record { at = s.0; earlier = lt; below = omega arith; is = sym s.1.1 ∙ ap (λ (x : Item). x.number) same }

  -- of an item with a predecessor, that it is no head
  pub no_head : (j k : ℕ) → j < length xs → (item_at xs k).predecessor ≡ (item_at xs j).number → (item_at xs k).predecessor ≡ 0 → ⊥
  no_head j k h e z = let low = (valid.each j h).number_low in omega arith

  pub comes_earlier : (j k : ℕ) → j < length xs → k < length xs → (item_at xs k).predecessor ≡ (item_at xs j).number → j < k
  comes_earlier j k hj h e =
      ⊎_elim
      (λ z. absurd (no_head j k hj e z))
      (λ l. rw (same_number j l.at hj l.below (sym e ∙ l.is)) l.earlier)
      (head_or_link k h)

  -- whatever item has the predecessor's number is the predecessor
  abbrev pub link_from : (j k : ℕ) → j < length xs → k < length xs → (item_at xs k).predecessor ≡ (item_at xs j).number → Link xs k
  link_from j k hj h e = record { at = j; earlier = comes_earlier j k hj h e; below = hj; is = e }

  pub period_head : (n k : ℕ) → (item_at xs k).predecessor ≡ 0 → period_within (suc n) xs (Some (item_at xs k)) ≡ (item_at xs k).period
  period_head n k z = rw (eq-eqb (item_at xs k).predecessor 0 z)

  pub period_link : (n k : ℕ) (l : Link xs k) → period_within (suc n) xs (Some (item_at xs k)) ≡ period_within n xs (Some (item_at xs l.at))
  period_link n k l =
      let other : eqb (item_at xs k).predecessor 0 ≡ false = ne_eqb _ _ (no_head l.at k l.below l.is) in
      let found : item_of (item_at xs k).predecessor xs ≡ Some (item_at xs l.at) = rw l.is (item_found xs valid.ascending l.at l.below) in
      rw (other, found)

  module _ (allows : ℕ → List Record → Trace → Type 0) (ws : List Span) (run : Trace) (ok : Allowed allows bits xs ws run) where
    spaced_within : (n k : ℕ) → k < n → k < length xs → (a b : ℕ) → run.arrives (item_at xs k).number a ≡ true → run.arrives (item_at xs k).number b ≡ true → a < b → a + period_within n xs (Some (item_at xs k)) ≤ b
    spaced_within zero k lt h a b p q less = absurd (not-suc-le-zero lt)
    spaced_within (suc n) k lt h a b p q less =
        ⊎_elim
        (λ z. rw (period_head n k z) (ok.spaced k a b h z p q less))
        (λ l. rw (period_link n k l)
        (spaced_within n l.at (omega (arith, l.earlier)) l.below a b
        (sym (ok.follows l.at k a l.below h l.is) ∙ p) (sym (ok.follows l.at k b l.below h l.is) ∙ q) less))
        (head_or_link k h)

    -- any two arrivals of an item are its period apart
    pub arrivals_spaced : (k : ℕ) → k < length xs → (a b : ℕ) → run.arrives (item_at xs k).number a ≡ true → run.arrives (item_at xs k).number b ≡ true → a < b → a + period_of xs (item_at xs k) ≤ b
    arrivals_spaced k h = spaced_within (length xs) k h h
