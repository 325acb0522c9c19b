-- The bytes of each element of a list, put into a buffer one behind the other.
use Rattle.std.proofs.Common.{◌≡◌, ℕ, ◌+◌, ◌<◌, ◌≤◌, List, ◌++◌, length, get_or, take, drop, ap, ◌∙◌, subst, arith, length-append}
use Rattle.std.specs.List.{flat_map}
use Rattle.std.proofs.Concat.{flat_map-take_more}
use Rattle.std.proofs.lemmas.List.{at_drop_more}
use Rattle.buffers.specs.Fronts.{Pasted}
use Rattle.buffers.proofs.Fronts.{pasted_more, pasted_none}

module _ {X : Type 0} (f : X → List ℕ) (xs : List X) where
  -- the length of what is left, one element on
  pub rest_more : (i : ℕ) (d : X) → i < length xs → length (flat_map f (drop i xs)) ≡ length (f (get_or xs i d)) + length (flat_map f (drop (i + 1) xs))
  rest_more i d lt = ap length (at_drop_more (flat_map f) xs i d lt) ∙ length-append (f (get_or xs i d)) (flat_map f (drop (i + 1) xs))

  -- from a place of a buffer on, the bytes of the elements before that at i are put, and the next go to their end
  pub record Putting (at end i : ℕ) (old new : List ℕ) : Type 0 where
    pub here : end ≡ at + length (flat_map f (take i xs))
    pub left : end + length (flat_map f (drop i xs)) ≡ at + length (flat_map f xs)
    pub placed : Pasted at (flat_map f (take i xs)) old new

  pub putting_none : (at : ℕ) (old : List ℕ) → Putting at at 0 old old
  putting_none at old = record { here = omega arith; left = omega arith; placed = pasted_none at old }

  -- the bytes of the element at i are put as well
  pub putting_more : (at end i : ℕ) (old mid : List ℕ) (x : X) → i < length xs → x ≡ get_or xs i x → Putting at end i old mid → (after : ℕ) (new : List ℕ) → at ≤ length old → after ≡ end + length (f x) → Pasted end (f x) mid new → Putting at after (i + 1) old new
  putting_more at end i old mid x lt is p after new low behind put =
      let same = ap f is in
      let next : flat_map f (take i xs) ++ f x ≡ flat_map f (take (i + 1) xs) = ap (λ l. flat_map f (take i xs) ++ l) same ∙ flat_map-take_more f xs i x lt in
      record {
        here = omega (arith, length-append (flat_map f (take i xs)) (f x), ap length next, p.here);
        left = omega (arith, rest_more i x lt, ap length same, p.left);
        placed = subst (λ l. Pasted at l old new) next (pasted_more at end old mid new (flat_map f (take i xs)) (f x) low p.here p.placed put);
      }
