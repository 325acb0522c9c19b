-- That every plan is well kept, and what an accepted and a refused visit leave.
use Rattle.std.proofs.Common.{◌≡◌, ℕ, List, [], Some, None, Ok, Err, Option, sym, refl, ap, ◌∙◌, subst, arith}
use Rattle.items.specs.declared.Entry.{Entry}
use Rattle.items.specs.declared.Item.{Item}
use Rattle.items.specs.declared.Refusal.{Refusal}
use Rattle.items.specs.Refusals.{as_result}
use Rattle.items.specs.Conditions.{open_refusal}
use Rattle.items.specs.Ledger.{Edit, edited, edit_refusal, Visit, edit}
use Rattle.items.specs.Journal.{State, fresh, entry_for, noted, made, visited, WellKept}
use Rattle.items.specs.Valid.{Valid}
use Rattle.items.proofs.Kept.{visits_keep, kept_from, opens_valid}
use Rattle.plan.specs.declared.Plan.{Plan}
use Rattle.plan.specs.Views.{view}

-- every plan is well kept
pub plan_kept : (p : Plan) → WellKept (view p)
plan_kept p = kept_from (view p) p.kept

-- and its items are valid
pub plan_valid : (p : Plan) → Valid (view p).bits (view p).items
plan_valid p = (plan_kept p).valid 0 (omega arith)

-- what a visit leaves is well kept
pub kept_after : (s t : State) (v : Visit) → WellKept s → t ≡ visited s v → ∥ WellKept t ∥₁
kept_after s t v kept is = ∣ subst WellKept (sym is) (visits_keep.visit s v kept) ∣₁

-- so is a plan that begins with valid items
pub kept_fresh : (bits : List ℕ) (xs : List Item) (t : State) → Valid bits xs → t ≡ fresh bits xs → ∥ WellKept t ∥₁
kept_fresh bits xs t valid is = ∣ subst WellKept (sym is) (visits_keep.start bits xs valid) ∣₁

-- and so is what opening gives
pub kept_open : (bits : List ℕ) (t : State) → open_refusal bits ≡ None → t ≡ fresh bits [] → ∥ WellKept t ∥₁
kept_open bits t accepted is = kept_fresh bits [] t (opens_valid bits accepted) is

-- the refusal behind a result
pub accepted_from : (o : Option Refusal) (u : Unit) → Ok u ≡ as_result o → o ≡ None
accepted_from None u e = refl
accepted_from (Some r) u e = let z : ◌≡◌ {A = ℕ} 0 1 = cc in absurd (omega arith)

pub refused_from : (o : Option Refusal) (r : Refusal) → Err r ≡ as_result o → o ≡ Some r
refused_from None r e = let z : ◌≡◌ {A = ℕ} 0 1 = cc in absurd (omega arith)
refused_from (Some q) r e = let same : q ≡ r = cc in ap Some same

-- a refused edit leaves all as it was
pub state_refused : (s : State) (e : Edit) (r : Refusal) → edit_refusal s.bits s.items e ≡ Some r → s ≡ visited s (edit e)
state_refused s e r refused = sym (ap (made s e) refused)

-- an accepted one edits the items and is noted
pub state_edited : (s : State) (e : Edit) (xs : List Item) (es : List Entry) → edit_refusal s.bits s.items e ≡ None → xs ≡ edited e s.items → es ≡ noted (entry_for s.items e) s.journal → ◌≡◌ {A = State} (record { bits = s.bits; items = xs; journal = es }) (visited s (edit e))
state_edited s e xs es accepted items journal =
    (λ i. record { bits = s.bits; items = items i; journal = journal i }) ∙ sym (ap (made s e) accepted)
