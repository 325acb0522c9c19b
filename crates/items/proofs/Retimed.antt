-- A list with the work of an item replaced: its members, and that a valid plan stays valid.
use Rattle.std.proofs.Common.{◌≡◌, ℕ, suc, Bool, true, false, cond, ◌||◌, eqb, ◌⊎◌, List, [], ◌∷◌, length, Some, None, sym, refl, ap, ◌∙◌, inl, inr, ⊎_elim, arith}
use Rattle.std.proofs.lemmas.Bool.{eq-eqb, ne_eqb, eqb-true}
use Rattle.items.specs.declared.Item.{Item}
use Rattle.items.specs.declared.Work.{Work}
use Rattle.items.specs.Items.{item_of, reworked, with_work}
use Rattle.items.specs.Conditions.{bit_time_of, stands, retime_refusal}
use Rattle.items.specs.Valid.{ValidWork, ValidItem, Valid}
use Rattle.items.proofs.Members.{In, Rising, Members, members, valid_since}
use Rattle.items.proofs.Accepted.{Retimable, retimable}

-- the item that a member was before
pub record Source (n : ℕ) (w : Work) (z : Item) (xs : List Item) : Type 0 where
  pub item : Item
  pub stays : In item xs
  pub is : (z ≡ item) ⊎ ((item.number ≡ n) × (z ≡ reworked w item))

pub source : (n : ℕ) (w : Work) (z : Item) (xs : List Item) → In z (with_work n w xs) → Source n w z xs
source n w z [] m = absurd m
source n w z (y ∷ ys) m = go (eqb y.number n) refl m (source n w z ys)
  where
    go : (b : Bool) → eqb y.number n ≡ b → In z (cond b (reworked w y ∷ ys) (y ∷ with_work n w ys)) → (In z (with_work n w ys) → Source n w z ys) → Source n w z (y ∷ ys)
    go true e (inl is) rest = record { item = y; stays = inl refl; is = inr (eqb-true y.number n e, is) }
    go true e (inr m) rest = record { item = z; stays = inr m; is = inl refl }
    go false e (inl is) rest = record { item = y; stays = inl refl; is = inl is }
    go false e (inr m) rest = let s = rest m in record { item = s.item; stays = inr s.stays; is = s.is }

-- all but the work is as it was
module _ {n : ℕ} {w : Work} {z : Item} {xs : List Item} (s : Source n w z xs) where
  same_number : z.number ≡ s.item.number
  same_number = ⊎_elim (ap (λ (x : Item). x.number)) (λ r. ap (λ (x : Item). x.number) r.1) s.is

  same_resource : z.resource ≡ s.item.resource
  same_resource = ⊎_elim (ap (λ (x : Item). x.resource)) (λ r. ap (λ (x : Item). x.resource) r.1) s.is

  same_priority : z.priority ≡ s.item.priority
  same_priority = ⊎_elim (ap (λ (x : Item). x.priority)) (λ r. ap (λ (x : Item). x.priority) r.1) s.is

  same_predecessor : z.predecessor ≡ s.item.predecessor
  same_predecessor = ⊎_elim (ap (λ (x : Item). x.predecessor)) (λ r. ap (λ (x : Item). x.predecessor) r.1) s.is

work_rising : (n : ℕ) (w : Work) (xs : List Item) → Rising xs → Rising (with_work n w xs)
work_rising n w [] up = tt
work_rising n w (y ∷ ys) up = go (eqb y.number n) (work_rising n w ys up.1)
  where
    go : (b : Bool) → Rising (with_work n w ys) → Rising (cond b (reworked w y ∷ ys) (y ∷ with_work n w ys))
    go true rest = up
    go false rest = (λ z m. let s = source n w z ys m in rw (same_number s) (up.0 s.item s.stays), rest)

work_length : (n : ℕ) (w : Work) (xs : List Item) → length (with_work n w xs) ≡ length xs
work_length n w [] = refl
work_length n w (y ∷ ys) = go (eqb y.number n) (work_length n w ys)
  where
    go : (b : Bool) → length (with_work n w ys) ≡ length ys → length (cond b (reworked w y ∷ ys) (y ∷ with_work n w ys)) ≡ suc (length ys)
    go true rest = refl
    go false rest = ap suc rest

work_stands : (n : ℕ) (w : Work) (m : ℕ) (xs : List Item) → stands m (with_work n w xs) ≡ stands m xs
work_stands n w m [] = refl
work_stands n w m (y ∷ ys) = go (eqb y.number n) (work_stands n w m ys)
  where
    go : (b : Bool) → stands m (with_work n w ys) ≡ stands m ys → stands m (cond b (reworked w y ∷ ys) (y ∷ with_work n w ys)) ≡ stands m (y ∷ ys)
    go true rest = refl
    go false rest = ap (λ (b : Bool). (eqb y.number m) || b) rest

-- a member is found by its number
pub found : (n : ℕ) (y : Item) (xs : List Item) → Rising xs → In y xs → y.number ≡ n → item_of n xs ≡ Some y
found n y [] up m e = absurd m
found n y (x ∷ xs) up (inl is) e = rw (eq-eqb x.number n (ap (λ (z : Item). z.number) (sym is) ∙ e)) (ap Some (sym is))
found n y (x ∷ xs) up (inr m) e =
    let less = up.0 y m in
    let differ : eqb x.number n ≡ false = ne_eqb _ _ (λ is. omega arith) in
    rw differ (found n y xs up.1 m e)

reworked_valid : (bits : List ℕ) (w : Work) (x : Item) → ValidItem bits x → ValidWork (bit_time_of bits x.resource) w → ValidItem bits (reworked w x)
reworked_valid bits w x v fits = record {
  number_low = v.number_low;
  number_high = v.number_high;
  resource_low = v.resource_low;
  resource_high = v.resource_high;
  priority_high = v.priority_high;
  work = fits;
  head = v.head;
  other = v.other;
}

module _ (bits : List ℕ) (xs : List Item) (valid : Valid bits xs) (n : ℕ) (w : Work) (accepted : retime_refusal bits xs n w ≡ None) where
  can : Retimable bits xs n w
  can = retimable bits xs n w accepted

  old : Members bits xs
  old = members bits xs valid

  from : (z : Item) → In z (with_work n w xs) → Source n w z xs
  from z = source n w z xs

  retimed_members : Members bits (with_work n w xs)
  retimed_members = record {
    rising = work_rising n w xs old.rising;
    each = λ z m. let s = from z m in ⊎_elim (λ is. rw is (old.each s.item s.stays)) (λ r. rw r.1 (reworked_valid bits w s.item (old.each s.item s.stays) (fits s r.0))) s.is;
    apart = λ y z m k r p.
        let s = from y m in
        let t = from z k in
        let e = old.apart s.item t.item s.stays t.stays (sym (same_resource s) ∙ (r ∙ same_resource t)) (sym (same_priority s) ∙ (p ∙ same_priority t)) in
        same_number s ∙ (e ∙ sym (same_number t));
    linked = λ z m ne.
        let s = from z m in
        let before = same_predecessor s in
        let number = same_number s in
        let l = old.linked s.item s.stays (λ e. ne (before ∙ e)) in
        (omega (arith, l.0), work_stands n w z.predecessor xs ∙ (ap (λ (k : ℕ). stands k xs) before ∙ l.1));
  }
    where
      fits : {z : Item} (s : Source n w z xs) → s.item.number ≡ n → ValidWork (bit_time_of bits s.item.resource) w
      fits s e =
          let here = found n s.item xs old.rising s.stays e in
          let there = can.is in
          let same : can.item ≡ s.item = cc in
          rw same at can.work

  pub retimed_valid : Valid bits (with_work n w xs)
  retimed_valid =
      let long = work_length n w xs in
      valid_since bits (with_work n w xs) valid.resources_low valid.resources_high valid.bit_times (omega (arith, valid.size)) retimed_members
