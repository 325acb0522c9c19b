-- A gap that is opened in the front of a list and filled, and one that is closed.
use Rattle.std.proofs.Common.{◌≡◌, ℕ, ◌+◌, ◌-◌, ◌<◌, ◌≤◌, List, [], ◌∷◌, ◌++◌, length, take, drop, set, sym, ap, ◌∙◌, arith, rules, length-take-le}
use Rattle.std.specs.List.{insert, remove, copy_within}
use Rattle.std.proofs.lemmas.List.{same_lists, places, take-take, drop-take, take_more_set}
use lib.Seq.{take-paste, take-set-lt, set-append_left, append_snoc}
use Rattle.fronts.specs.declared.Front.{Front}
use Rattle.fronts.specs.Listed.{listed}

-- a list has as many elements as are counted
pub counted : {T : Type 0} {N : ℕ} (f : Front T N) → length (listed f) ≡ f.count
counted f = length-take-le f.count f.slots (omega (arith, f.whole, f.within))

pub gap_filled : {X : Type 0} (xs : List X) (count at : ℕ) (x : X) → at ≤ count → count < length xs → take (count + 1) (set (copy_within xs at count (at + 1)) at x) ≡ insert (take count xs) at x
gap_filled {X} xs count at x low room =
    let moved = take (count - at) (drop at xs) in
    let size : at + 1 + (count - at) ≡ count + 1 = omega arith in
    let up : take (count + 1) (copy_within xs at count (at + 1)) ≡ take (at + 1) xs ++ moved = ap (λ (n : ℕ). take n (copy_within xs at count (at + 1))) (sym size) ∙ take-paste xs (at + 1) (drop at xs) (count - at) (omega arith) (search (rules, places)) in
    let filled : set (take (at + 1) xs) at x ≡ take at xs ++ (x ∷ []) = sym (take-set-lt (at + 1) xs at x (omega arith)) ∙ take_more_set xs at x (omega arith) in
    let behind : drop at (take count xs) ≡ moved = ap (λ (n : ℕ). drop at (take n xs)) (sym (omega arith)) ∙ drop-take at (count - at) xs in
    take-set-lt (count + 1) (copy_within xs at count (at + 1)) at x (omega arith)
    ∙ ap (λ (ys : List X). set ys at x) up
    ∙ set-append_left (take (at + 1) xs) moved at x (search (rules, places))
    ∙ ap (λ (ys : List X). ys ++ moved) filled
    ∙ append_snoc (take at xs) x moved
    ∙ sym (λ i. take-take at count xs low i ++ x ∷ behind i)

pub gap_closed : {X : Type 0} (xs : List X) (count at : ℕ) → at < count → count ≤ length xs → take (count - 1) (copy_within xs (at + 1) count at) ≡ remove (take count xs) at
gap_closed xs count at low room =
    same_lists _ _ (search (rules, places)) (λ k d h. grind (arith, places))
