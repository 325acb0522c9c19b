-- That a plan is valid has one proof at most, so it comes out of a ghost field again.
use mathlib.Core.Bool.{Bool-set}
use mathlib.Core.Logic.{∥∥₁_elim}
use Rattle.std.proofs.Common.{ℕ, List}
use native.Mathlib.Bridge.{le_prop}
use native.Mathlib.Nat.{ℕ_set}
use Rattle.items.specs.declared.Item.{Item}
use Rattle.items.specs.declared.Work.{Work}
use Rattle.items.specs.declared.Work.TheVariants.{Task, Frame}
use Rattle.items.specs.Valid.{ValidWork, ValidItem, Valid}

work_prop : (bit : ℕ) (w : Work) → IsProp (ValidWork bit w)
work_prop bit (Task low high) u v = λ i. (ℕ_set _ _ u.0 v.0 i, le_prop u.1 v.1 i, le_prop u.2 v.2 i, le_prop u.3 v.3 i)
work_prop bit (Frame bytes) u v = λ i. (le_prop u.0 v.0 i, le_prop u.1 v.1 i)

item_prop : (bits : List ℕ) (x : Item) → IsProp (ValidItem bits x)
item_prop bits x u v = λ i. record {
  number_low = le_prop u.number_low v.number_low i;
  number_high = le_prop u.number_high v.number_high i;
  resource_low = le_prop u.resource_low v.resource_low i;
  resource_high = le_prop u.resource_high v.resource_high i;
  priority_high = le_prop u.priority_high v.priority_high i;
  work = work_prop _ _ u.work v.work i;
  head = λ z. (le_prop (u.head z).0 (v.head z).0 i, le_prop (u.head z).1 (v.head z).1 i, le_prop (u.head z).2 (v.head z).2 i);
  other = λ z. (ℕ_set _ _ (u.other z).0 (v.other z).0 i, ℕ_set _ _ (u.other z).1 (v.other z).1 i);
}

pub valid_prop : (bits : List ℕ) (xs : List Item) → IsProp (Valid bits xs)
valid_prop bits xs u v = λ i. record {
  resources_low = le_prop u.resources_low v.resources_low i;
  resources_high = le_prop u.resources_high v.resources_high i;
  bit_times = λ k h. le_prop (u.bit_times k h) (v.bit_times k h) i;
  size = le_prop u.size v.size i;
  each = λ k h. item_prop bits _ (u.each k h) (v.each k h) i;
  ascending = λ j k l h. le_prop (u.ascending j k l h) (v.ascending j k l h) i;
  apart = λ j k hj hk e p. ℕ_set _ _ (u.apart j k hj hk e p) (v.apart j k hj hk e p) i;
  linked = λ k h ne. Bool-set _ _ (u.linked k h ne) (v.linked k h ne) i;
}

pub valid_from : (bits : List ℕ) (xs : List Item) → ∥ Valid bits xs ∥₁ → Valid bits xs
valid_from bits xs v = ∥∥₁_elim v (valid_prop bits xs) (λ u. u)
