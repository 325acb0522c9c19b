-- The edits of a list of items, by the places that a walk over it finds.
use Rattle.std.proofs.Common.{◌≡◌, ℕ, zero, suc, Bool, true, false, cond, not, ◌+◌, MatchOption, ◌||◌, eqb, ltb, List, [], ◌∷◌, length, ◌<◌, ◌≤◌, ◌≢◌, ⊎_elim, ◌∙◌, set, Some, None, Option, refl, ap, le_of_suc-le-suc, not-suc-le-zero, arith}
use Rattle.std.specs.List.{insert, remove, position, AllWithin, HoldsAt}
use Rattle.std.specs.Option.{unwrap_or}
use Rattle.std.proofs.lemmas.List.Sums.{prefix_len-le-length}
use Rattle.std.proofs.lemmas.Bool.{or_from, eq-eqb, ne_eqb, lt-ltb, le-ltb, cases_lt}
use Rattle.items.specs.declared.Item.{Item}
use Rattle.items.specs.declared.Work.{Work}
use Rattle.items.specs.Items.{no_item, item_at, item_of, with_item, without_item, reworked, with_work}
use Rattle.items.specs.Conditions.{stands}
use Rattle.items.specs.Places.{NotAmong, First, rank}

-- a number that is at no place does not stand
pub absent : (n : ℕ) (xs : List Item) → NotAmong n xs (length xs) → stands n xs ≡ false
absent n [] out = refl
absent n (x ∷ xs) out = or_from (eqb x.number n) (stands n xs) (ne_eqb x.number n (out 0 (omega arith))) (absent n xs (λ k h. out (suc k) (omega arith)))

-- what does not stand is no item
pub no_record : (n : ℕ) (xs : List Item) → stands n xs ≡ false → item_of n xs ≡ None
no_record n [] e = refl
no_record n (x ∷ xs) e = go (eqb x.number n) e (no_record n xs)
  where
    go : (b : Bool) → (b || stands n xs) ≡ false → (stands n xs ≡ false → item_of n xs ≡ None) → cond b (Some x) (item_of n xs) ≡ None
    go true e rest = let z : ◌≡◌ {A = Bool} true false = e in let w : ◌≡◌ {A = ℕ} 0 1 = cc in absurd (omega arith)
    go false e rest = rest e

-- an item belongs at its rank
pub with_at_rank : (x : Item) (xs : List Item) → insert xs (rank x.number xs) x ≡ with_item x xs
with_at_rank x [] = refl
with_at_rank x (y ∷ ys) = go (ltb x.number y.number) (with_at_rank x ys)
  where
    go : (b : Bool) → insert ys (rank x.number ys) x ≡ with_item x ys → insert (y ∷ ys) (cond (not b) (1 + rank x.number ys) 0) x ≡ cond b (x ∷ (y ∷ ys)) (y ∷ with_item x ys)
    go true rest = refl
    go false rest =
        let one : 1 + rank x.number ys ≡ suc (rank x.number ys) = omega arith in
        ap (λ (k : ℕ). insert (y ∷ ys) k x) one ∙ ap (λ (zs : List Item). y ∷ zs) rest

-- one step past the first item
later : (n : ℕ) (y : Item) (ys : List Item) (at : ℕ) → First n (y ∷ ys) (suc at) → First n ys at
later n y ys at f = record { within = le_of_suc-le-suc f.within; here = f.here; before = λ k h. f.before (suc k) (omega arith) }

differs : (n : ℕ) (y : Item) (ys : List Item) (at : ℕ) → First n (y ∷ ys) (suc at) → eqb y.number n ≡ false
differs n y ys at f = ne_eqb y.number n (f.before 0 (omega arith))

-- the item of a number is the one at its first place
pub record_at : (n : ℕ) (xs : List Item) (at : ℕ) → First n xs at → item_of n xs ≡ Some (item_at xs at)
record_at n [] at f = absurd (not-suc-le-zero f.within)
record_at n (y ∷ ys) zero f = rw (eq-eqb y.number n f.here)
record_at n (y ∷ ys) (suc at) f = rw (differs n y ys at f) (record_at n ys at (later n y ys at f))

pub without_at : (n : ℕ) (xs : List Item) (at : ℕ) → First n xs at → remove xs at ≡ without_item n xs
without_at n [] at f = absurd (not-suc-le-zero f.within)
without_at n (y ∷ ys) zero f = rw (eq-eqb y.number n f.here)
without_at n (y ∷ ys) (suc at) f = rw (differs n y ys at f) (ap (λ (zs : List Item). y ∷ zs) (without_at n ys at (later n y ys at f)))

pub work_at : (n : ℕ) (w : Work) (xs : List Item) (at : ℕ) → First n xs at → set xs at (reworked w (item_at xs at)) ≡ with_work n w xs
work_at n w [] at f = absurd (not-suc-le-zero f.within)
work_at n w (y ∷ ys) zero f = rw (eq-eqb y.number n f.here)
work_at n w (y ∷ ys) (suc at) f = rw (differs n y ys at f) (ap (λ (zs : List Item). y ∷ zs) (work_at n w ys at (later n y ys at f)))

-- the position of a number is its first place; where it has none, it does not stand
pub first_place : (n : ℕ) (xs : List Item) (o : Option ℕ) → MatchOption o (AllWithin (λ x. x.number ≢ n) xs 0 (length xs)) (λ i. (i < length xs) × HoldsAt (λ x. x.number ≡ n) xs i × AllWithin (λ x. x.number ≢ n) xs 0 i) → MatchOption o (stands n xs ≡ false) (First n xs)
first_place n xs None out = absent n xs (λ k h. out k no_item (omega arith) h)
first_place n xs (Some at) found = record { within = found.0; here = found.1 no_item; before = λ k h. found.2 k no_item (omega arith) h }

-- the position of the first higher number is the rank, and so is the length where there is none
pub rank_found : (n : ℕ) (xs : List Item) → unwrap_or (position (λ x. ltb n x.number) xs) (length xs) ≡ rank n xs
rank_found n xs =
    let r = rank n xs in
    let within : r ≤ length xs = prefix_len-le-length (λ x. not (ltb n x.number)) xs in
    let chosen : Bool → ℕ = λ b. unwrap_or (cond b (Some r) None) (length xs) in
    ⊎_elim
    (λ (l : r < length xs). ap chosen (lt-ltb r (length xs) l))
    (λ (g : length xs ≤ r). let end : length xs ≡ r = omega arith in ap chosen (le-ltb r (length xs) g) ∙ end)
    (cases_lt r (length xs))
