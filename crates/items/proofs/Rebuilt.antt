-- A plan can be placed again, item by item in its order: each item is accepted among those before it, and goes behind them.
use Rattle.std.proofs.Common.{◌≡◌, ℕ, suc, ◌<◌, ◌≤◌, min, true, false, eqb, List, [], ◌∷◌, ◌++◌, length, take, None, sym, refl, ap, ◌∙◌, inl, inr, ⊎_elim, arith, length-take, get_or-take}
use Rattle.std.proofs.lemmas.Bool.{cases_Bool, or_cases, and_parts, eqb-true, false≢true, le-ltb, cond-false}
use Rattle.items.specs.declared.Item.{Item}
use Rattle.items.specs.Items.{no_item, item_at, with_item}
use Rattle.items.specs.Conditions.{stands, priority_used, place_refusal}
use Rattle.items.specs.Valid.{Valid}
use Rattle.items.proofs.Members.{In, seat_of, in_at, stander, members}
use Rattle.items.proofs.Accepted.{accepts}

-- an item of the highest number goes behind all others
pub with_last : (x : Item) (xs : List Item) → ((k : ℕ) → k < length xs → (item_at xs k).number < x.number) → with_item x xs ≡ xs ++ x ∷ []
with_last x [] lower = refl
with_last x (y ∷ ys) lower =
    let behind : y.number ≤ x.number = omega (arith, lower 0 (omega arith)) in
    cond-false _ _ _ (le-ltb x.number y.number behind) ∙ ap (λ l. y ∷ l) (with_last x ys (λ k below. lower (suc k) (omega arith)))

-- who uses a priority
record User (resource priority : ℕ) (xs : List Item) : Type 0 where
  item : Item
  stays : In item xs
  on : item.resource ≡ resource
  has : item.priority ≡ priority

user : (r p : ℕ) (xs : List Item) → priority_used r p xs ≡ true → User r p xs
user r p [] used = absurd (false≢true used)
user r p (x ∷ xs) used =
    ⊎_elim
    (λ here.
    let both = and_parts (eqb x.resource r) (eqb x.priority p) here in
    record { item = x; stays = inl refl; on = eqb-true x.resource r both.0; has = eqb-true x.priority p both.1 })
    (λ there. let u = user r p xs there in record { item = u.item; stays = inr u.stays; on = u.on; has = u.has })
    (or_cases _ (priority_used r p xs) used)

module _ (bits : List ℕ) (xs : List Item) (valid : Valid bits xs) (k : ℕ) (within : k < length xs) where
  -- an item before the one at k, by its place in the whole list
  earlier : (y : Item) → In y (take k xs) → (j : ℕ) × ((j < k) × (item_at xs j ≡ y))
  earlier y m =
      let s = seat_of y (take k xs) m in
      let few : length (take k xs) ≡ min k (length xs) = length-take k xs in
      let lower : s.at < k = omega (arith, s.below) in
      (s.at, (lower, sym (get_or-take k xs s.at no_item lower) ∙ s.is))

  new : stands (item_at xs k).number (take k xs) ≡ false
  new =
      ⊎_elim
      (λ there.
      let t = stander (item_at xs k).number (take k xs) there in
      let e = earlier t.item t.stays in
      let same : (item_at xs e.0).number ≡ (item_at xs k).number = ap (λ (z : Item). z.number) e.1.1 ∙ t.is in
      absurd (omega (arith, valid.ascending e.0 k e.1.0 within)))
      (λ none. none)
      (cases_Bool (stands (item_at xs k).number (take k xs)))

  unused : priority_used (item_at xs k).resource (item_at xs k).priority (take k xs) ≡ false
  unused =
      ⊎_elim
      (λ there.
      let u = user (item_at xs k).resource (item_at xs k).priority (take k xs) there in
      let e = earlier u.item u.stays in
      let inside : e.0 < length xs = omega (arith, e.1.0) in
      let same = valid.apart e.0 k inside within (ap (λ (z : Item). z.resource) e.1.1 ∙ u.on) (ap (λ (z : Item). z.priority) e.1.1 ∙ u.has) in
      absurd (omega (arith, e.1.0)))
      (λ none. none)
      (cases_Bool (priority_used (item_at xs k).resource (item_at xs k).priority (take k xs)))

  -- the item at k is accepted among those before it
  pub accepted_next : place_refusal bits (take k xs) (item_at xs k) ≡ None
  accepted_next =
      let few : length (take k xs) ≡ min k (length xs) = length-take k xs in
      let size = valid.size in
      accepts bits (take k xs) (item_at xs k) (record {
        valid = valid.each k within;
        new = new;
        unused = unused;
        linked = λ ne. (((members bits xs valid).linked (item_at xs k) (in_at xs k within) ne).0, valid.linked k within ne);
        room = omega arith;
      })
