-- The items of a list as its members: by them it is easier to say what an edit keeps than by places.
use Rattle.std.proofs.Common.{◌≡◌, ℕ, zero, suc, ◌<◌, ◌≤◌, min, true, eqb, ◌⊎◌, List, [], ◌∷◌, length, get_or, take, sym, refl, ap, ◌∙◌, inl, inr, ⊎_elim, le_of_suc-le-suc, not-suc-le-zero, arith, length-take, get_or-take}
use Rattle.std.proofs.lemmas.Bool.{eq-eqb, eqb-true, or_cases, or_left, or_right, cases_order, false≢true}
use Rattle.items.specs.declared.Item.{Item}
use Rattle.items.specs.Items.{no_item, item_at}
use Rattle.items.specs.Conditions.{stands}
use Rattle.items.specs.Valid.{ValidItem, Valid}

abbrev pub In : Item → List Item → Type 0
In x [] = ⊥
In x (y ∷ ys) = (x ≡ y) ⊎ In x ys

pub in_at : (xs : List Item) (k : ℕ) → k < length xs → In (item_at xs k) xs
in_at [] k h = absurd (not-suc-le-zero h)
in_at (x ∷ xs) zero h = inl refl
in_at (x ∷ xs) (suc k) h = inr (in_at xs k (le_of_suc-le-suc h))

-- the place of a member
pub record Seat (x : Item) (xs : List Item) : Type 0 where
  pub at : ℕ
  pub below : at < length xs
  pub is : item_at xs at ≡ x

pub seat_of : (x : Item) (xs : List Item) → In x xs → Seat x xs
seat_of x [] m = absurd m
seat_of x (y ∷ ys) (inl e) = record { at = 0; below = omega arith; is = sym e }
seat_of x (y ∷ ys) (inr m) = let s = seat_of x ys m in record { at = suc s.at; below = omega (arith, s.below); is = s.is }

-- that a number stands, said of a member
pub stands_in : (n : ℕ) (x : Item) (xs : List Item) → In x xs → x.number ≡ n → stands n xs ≡ true
stands_in n x [] m e = absurd m
stands_in n x (y ∷ ys) (inl is) e = or_left (eqb y.number n) (stands n ys) (eq-eqb y.number n (ap (λ (z : Item). z.number) (sym is) ∙ e))
stands_in n x (y ∷ ys) (inr m) e = or_right (eqb y.number n) (stands n ys) (stands_in n x ys m e)

pub record Stander (n : ℕ) (xs : List Item) : Type 0 where
  pub item : Item
  pub stays : In item xs
  pub is : item.number ≡ n

pub stander : (n : ℕ) (xs : List Item) → stands n xs ≡ true → Stander n xs
stander n [] h = absurd (false≢true h)
stander n (x ∷ xs) h =
    ⊎_elim
    (λ here. record { item = x; stays = inl refl; is = eqb-true x.number n here })
    (λ there. let s = stander n xs there in record { item = s.item; stays = inr s.stays; is = s.is })
    (or_cases (eqb x.number n) (stands n xs) h)

-- each member has a lower number than those after it
abbrev pub Rising : List Item → Type 0
Rising [] = Unit
Rising (x ∷ xs) = ((y : Item) → In y xs → x.number < y.number) × Rising xs

abbrev Ascending : List Item → Type 0
Ascending xs = (j k : ℕ) → j < k → k < length xs → (item_at xs j).number < (item_at xs k).number

rising_from : (xs : List Item) → Ascending xs → Rising xs
rising_from [] up = tt
rising_from (x ∷ xs) up = (
  λ y m. let s = seat_of y xs m in let less = up 0 (suc s.at) (omega arith) (omega (arith, s.below)) in rw (← s.is) less,
  rising_from xs (λ j k l h. up (suc j) (suc k) (omega arith) (omega arith)),
)

ascending_from : (xs : List Item) → Rising xs → Ascending xs
ascending_from [] up j k l h = absurd (not-suc-le-zero h)
ascending_from (x ∷ xs) up j zero l h = absurd (not-suc-le-zero l)
ascending_from (x ∷ xs) up zero (suc k) l h = up.0 (item_at xs k) (in_at xs k (le_of_suc-le-suc h))
ascending_from (x ∷ xs) up (suc j) (suc k) l h = ascending_from xs up.1 j k (le_of_suc-le-suc l) (le_of_suc-le-suc h)

-- a lower number stands earlier
stands_earlier : (xs : List Item) → Rising xs → (n k : ℕ) → k < length xs → n < (item_at xs k).number → stands n xs ≡ true → stands n (take k xs) ≡ true
stands_earlier [] up n k h less s = absurd (not-suc-le-zero h)
stands_earlier (x ∷ xs) up n zero h less s =
    ⊎_elim
    (λ here. absurd (omega (arith, eqb-true x.number n here)))
    (λ there. let t = stander n xs there in absurd (omega (arith, up.0 t.item t.stays, t.is)))
    (or_cases (eqb x.number n) (stands n xs) s)
stands_earlier (x ∷ xs) up n (suc k) h less s =
    ⊎_elim
    (λ here. or_left (eqb x.number n) (stands n (take k xs)) here)
    (λ there. or_right (eqb x.number n) (stands n (take k xs)) (stands_earlier xs up.1 n k (le_of_suc-le-suc h) less there))
    (or_cases (eqb x.number n) (stands n xs) s)

-- what a valid plan has, said of its members
pub record Members (bits : List ℕ) (xs : List Item) : Type 0 where
  pub rising : Rising xs
  pub each : (x : Item) → In x xs → ValidItem bits x
  pub apart : (x y : Item) → In x xs → In y xs → x.resource ≡ y.resource → x.priority ≡ y.priority → x.number ≡ y.number
  pub linked : (x : Item) → In x xs → (x.predecessor ≡ 0 → ⊥) → (x.predecessor < x.number) × (stands x.predecessor xs ≡ true)

module _ (bits : List ℕ) (xs : List Item) where
  pub members : Valid bits xs → Members bits xs
  members v = record {
    rising = rising_from xs v.ascending;
    each = λ x m. let s = seat_of x xs m in rw (← s.is) (v.each s.at s.below);
    apart = λ x y m n e p.
        let s = seat_of x xs m in
        let t = seat_of y xs n in
        let same : s.at ≡ t.at = v.apart s.at t.at s.below t.below (cc) (cc) in
        cc;
    linked = linked;
  }
    where
      linked : (x : Item) → In x xs → (x.predecessor ≡ 0 → ⊥) → (x.predecessor < x.number) × (stands x.predecessor xs ≡ true)
      linked x m ne =
          let s = seat_of x xs m in
          let before : (item_at xs s.at).predecessor ≡ x.predecessor = ap (λ (z : Item). z.predecessor) s.is in
          let t = stander (item_at xs s.at).predecessor (take s.at xs) (v.linked s.at s.below (λ z. ne (sym before ∙ z))) in
          let u = seat_of t.item (take s.at xs) t.stays in
          let least : length (take s.at xs) ≡ min s.at (length xs) = length-take s.at xs in
          let lt : u.at < s.at = omega (arith, u.below) in
          let same : item_at (take s.at xs) u.at ≡ item_at xs u.at = get_or-take s.at xs u.at no_item lt in
          let inside : u.at < length xs = omega (arith, s.below) in
          let up : (item_at xs u.at).number < (item_at xs s.at).number = v.ascending u.at s.at lt s.below in
          let is : (item_at xs u.at).number ≡ x.predecessor = ap (λ (z : Item). z.number) (sym same ∙ u.is) ∙ (t.is ∙ before) in
          let own : (item_at xs s.at).number ≡ x.number = ap (λ (z : Item). z.number) s.is in
          (omega arith, stands_in x.predecessor (item_at xs u.at) xs (in_at xs u.at inside) is)

  pub valid_since : 1 ≤ length bits → length bits ≤ 16 → ((i : ℕ) → i < length bits → get_or bits i 0 ≤ 100) → length xs ≤ 256 → Members bits xs → Valid bits xs
  valid_since low high each few m = record {
    resources_low = low;
    resources_high = high;
    bit_times = each;
    size = few;
    each = λ k h. m.each (item_at xs k) (in_at xs k h);
    ascending = up;
    apart = λ j k hj hk e p.
        let same = m.apart (item_at xs j) (item_at xs k) (in_at xs j hj) (in_at xs k hk) e p in
        ⊎_elim (λ is. is) (⊎_elim (λ less. absurd (omega (arith, up j k less hk))) (λ less. absurd (omega (arith, up k j less hj)))) (cases_order j k);
    linked = λ k h ne.
        let l = m.linked (item_at xs k) (in_at xs k h) ne in
        stands_earlier xs m.rising (item_at xs k).predecessor k h l.0 l.1;
  }
    where
      up : Ascending xs
      up = ascending_from xs m.rising
