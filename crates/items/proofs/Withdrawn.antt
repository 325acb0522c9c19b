-- A list without an item: its members, and that a valid plan stays valid.
use Rattle.std.proofs.Common.{◌≡◌, ℕ, suc, ◌≤◌, Bool, true, false, cond, eqb, List, [], ◌∷◌, length, None, sym, refl, ap, ◌∙◌, inl, inr, ⊎_elim, arith}
use Rattle.std.proofs.lemmas.Bool.{or_parts, eq-eqb, eqb-true, eqb-false, both_ways, cases_Bool}
use Rattle.items.specs.declared.Item.{Item}
use Rattle.items.specs.Items.{without_item}
use Rattle.items.specs.Conditions.{stands, has_successor, withdraw_refusal}
use Rattle.items.specs.Valid.{Valid}
use Rattle.items.proofs.Members.{In, Rising, stander, stands_in, Members, members, valid_since}
use Rattle.items.proofs.Accepted.{withdrawable}

pub without_in : (n : ℕ) (z : Item) (xs : List Item) → Rising xs → In z (without_item n xs) → In z xs × (z.number ≡ n → ⊥)
without_in n z [] up m = absurd m
without_in n z (y ∷ ys) up m = go (eqb y.number n) refl m (without_in n z ys up.1)
  where
    go : (b : Bool) → eqb y.number n ≡ b → In z (cond b ys (y ∷ without_item n ys)) → (In z (without_item n ys) → In z ys × (z.number ≡ n → ⊥)) → In z (y ∷ ys) × (z.number ≡ n → ⊥)
    go true e m rest = (inr m, λ is. omega (arith, eqb-true y.number n e, up.0 z m))
    go false e (inl is) rest = (inl is, λ same. eqb-false y.number n e (ap (λ (x : Item). x.number) (sym is) ∙ same))
    go false e (inr m) rest = let r = rest m in (inr r.0, r.1)

pub in_without : (n : ℕ) (z : Item) (xs : List Item) → In z xs → (z.number ≡ n → ⊥) → In z (without_item n xs)
in_without n z [] m ne = absurd m
in_without n z (y ∷ ys) m ne = go (eqb y.number n) refl m (λ i. in_without n z ys i ne)
  where
    go : (b : Bool) → eqb y.number n ≡ b → In z (y ∷ ys) → (In z ys → In z (without_item n ys)) → In z (cond b ys (y ∷ without_item n ys))
    go true e (inl is) rest = absurd (ne (ap (λ (x : Item). x.number) is ∙ eqb-true y.number n e))
    go true e (inr m) rest = m
    go false e (inl is) rest = inl is
    go false e (inr m) rest = inr (rest m)

pub without_rising : (n : ℕ) (xs : List Item) → Rising xs → Rising (without_item n xs)
without_rising n [] up = tt
without_rising n (y ∷ ys) up = go (eqb y.number n) (without_rising n ys up.1)
  where
    go : (b : Bool) → Rising (without_item n ys) → Rising (cond b ys (y ∷ without_item n ys))
    go true rest = up.1
    go false rest = (λ z m. up.0 z (without_in n z ys up.1 m).0, rest)

without_length : (n : ℕ) (xs : List Item) → length (without_item n xs) ≤ length xs
without_length n [] = omega arith
without_length n (y ∷ ys) = go (eqb y.number n) (without_length n ys)
  where
    go : (b : Bool) → length (without_item n ys) ≤ length ys → length (cond b ys (y ∷ without_item n ys)) ≤ suc (length ys)
    go true rest = omega arith
    go false rest = omega arith

-- a removed number stands no more
pub without_stands : (n : ℕ) (xs : List Item) → Rising xs → stands n (without_item n xs) ≡ false
without_stands n xs up =
    ⊎_elim
    (λ s. let t = stander n (without_item n xs) s in absurd ((without_in n t.item xs up t.stays).1 t.is))
    (λ e. e)
    (cases_Bool (stands n (without_item n xs)))

successor_in : (n : ℕ) (z : Item) (xs : List Item) → has_successor n xs ≡ false → In z xs → z.predecessor ≡ n → ⊥
successor_in n z [] e m is = m
successor_in n z (y ∷ ys) e (inl same) is =
    both_ways (eqb y.predecessor n) (or_parts (eqb y.predecessor n) (has_successor n ys) e).0 (eq-eqb y.predecessor n (ap (λ (x : Item). x.predecessor) (sym same) ∙ is))
successor_in n z (y ∷ ys) e (inr m) is = successor_in n z ys (or_parts (eqb y.predecessor n) (has_successor n ys) e).1 m is

module _ (bits : List ℕ) (xs : List Item) (valid : Valid bits xs) (n : ℕ) (accepted : withdraw_refusal xs n ≡ None) where
  old : Members bits xs
  old = members bits xs valid

  from : (z : Item) → In z (without_item n xs) → In z xs × (z.number ≡ n → ⊥)
  from z = without_in n z xs old.rising

  withdrawn_members : Members bits (without_item n xs)
  withdrawn_members = record {
    rising = without_rising n xs old.rising;
    each = λ z m. old.each z (from z m).0;
    apart = λ y z m k. old.apart y z (from y m).0 (from z k).0;
    linked = λ z m ne.
        let l = old.linked z (from z m).0 ne in
        let t = stander z.predecessor xs l.1 in
        let stays = in_without n t.item xs t.stays (λ is. successor_in n z xs (withdrawable xs n accepted).1 (from z m).0 (sym t.is ∙ is)) in
        (l.0, stands_in z.predecessor t.item (without_item n xs) stays t.is);
  }

  pub withdrawn_valid : Valid bits (without_item n xs)
  withdrawn_valid =
      valid_since bits (without_item n xs) valid.resources_low valid.resources_high valid.bit_times (omega (arith, without_length n xs, valid.size)) withdrawn_members
