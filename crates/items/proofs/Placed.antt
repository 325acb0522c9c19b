-- A list with one more item: its members, and that a valid plan stays valid.
use Rattle.std.proofs.Common.{◌≡◌, ℕ, suc, ◌<◌, Bool, true, false, cond, eqb, ltb, ◌⊎◌, List, [], ◌∷◌, length, None, sym, refl, ap, ◌∙◌, inl, inr, ⊎_elim, arith}
use Rattle.std.proofs.lemmas.Bool.{or_parts, and_from, eq-eqb, eqb-false, ltb-true, ltb-false, both_ways}
use Rattle.items.specs.declared.Item.{Item}
use Rattle.items.specs.Items.{with_item}
use Rattle.items.specs.Conditions.{stands, priority_used, place_refusal}
use Rattle.items.specs.Valid.{Valid}
use Rattle.items.proofs.Members.{In, Rising, stander, stands_in, Members, members, valid_since}
use Rattle.items.proofs.Accepted.{Placeable, placeable}

pub with_in : (z x : Item) (xs : List Item) → In z (with_item x xs) → (z ≡ x) ⊎ In z xs
with_in z x [] m = m
with_in z x (y ∷ ys) m = go (ltb x.number y.number) m (with_in z x ys)
  where
    go : (b : Bool) → In z (cond b (x ∷ (y ∷ ys)) (y ∷ with_item x ys)) → (In z (with_item x ys) → (z ≡ x) ⊎ In z ys) → (z ≡ x) ⊎ In z (y ∷ ys)
    go true m rest = m
    go false (inl e) rest = inr (inl e)
    go false (inr m) rest = ⊎_elim inl (λ i. inr (inr i)) (rest m)

pub in_with : (z x : Item) (xs : List Item) → In z xs → In z (with_item x xs)
in_with z x [] m = absurd m
in_with z x (y ∷ ys) m = go (ltb x.number y.number) m (in_with z x ys)
  where
    go : (b : Bool) → In z (y ∷ ys) → (In z ys → In z (with_item x ys)) → In z (cond b (x ∷ (y ∷ ys)) (y ∷ with_item x ys))
    go true m rest = inr m
    go false (inl e) rest = inl e
    go false (inr m) rest = inr (rest m)

pub with_length : (x : Item) (xs : List Item) → length (with_item x xs) ≡ suc (length xs)
with_length x [] = refl
with_length x (y ∷ ys) = go (ltb x.number y.number) (with_length x ys)
  where
    go : (b : Bool) → length (with_item x ys) ≡ suc (length ys) → length (cond b (x ∷ (y ∷ ys)) (y ∷ with_item x ys)) ≡ suc (suc (length ys))
    go true rest = refl
    go false rest = ap suc rest

pub with_rising : (x : Item) (xs : List Item) → Rising xs → stands x.number xs ≡ false → Rising (with_item x xs)
with_rising x [] up new = (λ y m. absurd m, tt)
with_rising x (y ∷ ys) up new =
    let both = or_parts (eqb y.number x.number) (stands x.number ys) new in
    go (ltb x.number y.number) refl (eqb-false y.number x.number both.0) (with_rising x ys up.1 both.1)
  where
    go : (b : Bool) → ltb x.number y.number ≡ b → (y.number ≡ x.number → ⊥) → Rising (with_item x ys) → Rising (cond b (x ∷ (y ∷ ys)) (y ∷ with_item x ys))
    go true e ne rest = (λ z m. first z m, up)
      where
        first : (z : Item) → In z (y ∷ ys) → x.number < z.number
        first z (inl is) = rw is (ltb-true x.number y.number e)
        first z (inr m) = omega (arith, ltb-true x.number y.number e, up.0 z m)
    go false e ne rest = (λ z m. ⊎_elim (λ is. rw is (omega (arith, ltb-false x.number y.number e, ne))) (λ i. up.0 z i) (with_in z x ys m), rest)

-- an item of a resource and a priority uses it
used_in : (r p : ℕ) (y : Item) (ys : List Item) → priority_used r p ys ≡ false → In y ys → y.resource ≡ r → y.priority ≡ p → ⊥
used_in r p y [] e m er ep = m
used_in r p y (x ∷ xs) e (inl is) er ep =
    let both = or_parts _ (priority_used r p xs) e in
    both_ways _ both.0 (and_from (eqb x.resource r) (eqb x.priority p) (eq-eqb x.resource r (ap (λ (z : Item). z.resource) (sym is) ∙ er)) (eq-eqb x.priority p (ap (λ (z : Item). z.priority) (sym is) ∙ ep)))
used_in r p y (x ∷ xs) e (inr m) er ep = used_in r p y xs (or_parts _ (priority_used r p xs) e).1 m er ep

module _ (bits : List ℕ) (xs : List Item) (valid : Valid bits xs) (x : Item) (accepted : place_refusal bits xs x ≡ None) where
  can : Placeable bits xs x
  can = placeable bits xs x accepted

  old : Members bits xs
  old = members bits xs valid

  placed_members : Members bits (with_item x xs)
  placed_members = record {
    rising = with_rising x xs old.rising can.new;
    each = λ z m. ⊎_elim (λ is. rw is can.valid) (old.each z) (with_in z x xs m);
    apart = apart;
    linked = linked;
  }
    where
      apart : (y z : Item) → In y (with_item x xs) → In z (with_item x xs) → y.resource ≡ z.resource → y.priority ≡ z.priority → y.number ≡ z.number
      apart y z m n r p =
          ⊎_elim
          (λ isy. ⊎_elim
          (λ isz. cc)
          (λ inz. absurd (used_in x.resource x.priority z xs can.unused inz (cc) (cc)))
          (with_in z x xs n))
          (λ iny. ⊎_elim
          (λ isz. absurd (used_in x.resource x.priority y xs can.unused iny (cc) (cc)))
          (λ inz. old.apart y z iny inz r p)
          (with_in z x xs n))
          (with_in y x xs m)

      still : (n : ℕ) → stands n xs ≡ true → stands n (with_item x xs) ≡ true
      still n s = let t = stander n xs s in stands_in n t.item (with_item x xs) (in_with t.item x xs t.stays) t.is

      linked : (z : Item) → In z (with_item x xs) → (z.predecessor ≡ 0 → ⊥) → (z.predecessor < z.number) × (stands z.predecessor (with_item x xs) ≡ true)
      linked z m =
          ⊎_elim
          (λ is. rw is (λ ne. let l = can.linked ne in (l.0, still x.predecessor l.1)))
          (λ i ne. let l = old.linked z i ne in (l.0, still z.predecessor l.1))
          (with_in z x xs m)

  pub placed_valid : Valid bits (with_item x xs)
  placed_valid =
      let long = with_length x xs in
      let room = can.room in
      valid_since bits (with_item x xs) valid.resources_low valid.resources_high valid.bit_times (omega arith) placed_members
