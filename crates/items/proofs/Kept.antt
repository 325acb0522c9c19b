-- Every visit leaves a plan well kept.
use Rattle.std.proofs.Common.{◌≡◌, ℕ, zero, suc, ◌+◌, ◌≤◌, min, List, [], ◌∷◌, length, take, Some, None, Option, refl, ap, ◌∙◌, le_of_suc-le-suc, not-suc-le-zero, arith, length-take}
use mathlib.Core.Logic.{∥∥₁_elim}
use native.Mathlib.Bridge.{le_prop}
use Rattle.items.specs.declared.Entry.{Entry}
use Rattle.items.specs.declared.Item.{Item}
use Rattle.items.specs.declared.Refusal.{Refusal}
use Rattle.items.specs.Valid.{Valid}
use Rattle.items.specs.Ledger.{Edit, placed, withdrawn, retimed, edited, edit_refusal, Visit, edit, undo, settle}
use Rattle.items.specs.Journal.{State, fresh, entry_for, noted, undone, undone_newest, made, reverted, visited, WellKept}
use Rattle.items.specs.Stands.{OpensValid, EditsKeepValid, VisitsKeep}
use Rattle.items.proofs.Valid.{valid_prop}
use Rattle.items.proofs.Members.{valid_since}
use Rattle.items.proofs.Accepted.{openable}
use Rattle.items.proofs.Placed.{placed_valid}
use Rattle.items.proofs.Withdrawn.{withdrawn_valid}
use Rattle.items.proofs.Retimed.{retimed_valid}
use Rattle.items.proofs.Undone.{undone_edit}

pub opens_valid : OpensValid
opens_valid bits accepted =
    let o = openable bits accepted in
    valid_since bits [] o.low o.high o.each (omega arith) (record { rising = tt; each = λ x m. absurd m; apart = λ x y m. absurd m; linked = λ x m. absurd m })

pub edits_keep_valid : EditsKeepValid
edits_keep_valid bits xs (placed x) valid accepted = placed_valid bits xs valid x accepted
edits_keep_valid bits xs (withdrawn n) valid accepted = withdrawn_valid bits xs valid n accepted
edits_keep_valid bits xs (retimed n w) valid accepted = retimed_valid bits xs valid n w accepted

-- entries that are not reached may be gone
undone_front : (k m : ℕ) (es : List Entry) (xs : List Item) → k ≤ m → undone_newest k (take m es) xs ≡ undone_newest k es xs
undone_front zero m es xs h = refl
undone_front (suc k) zero es xs h = absurd (not-suc-le-zero h)
undone_front (suc k) (suc m) [] xs h = refl
undone_front (suc k) (suc m) (e ∷ es) xs h = undone_front k m es (undone e xs) (le_of_suc-le-suc h)

pub noted_length : (e : Entry) (es : List Entry) → length (noted e es) ≡ min 32 (length es + 1)
noted_length e es = length-take 32 (e ∷ es) ∙ omega arith

module _ (s : State) (kept : WellKept s) where
  module _ (e : Edit) (accepted : edit_refusal s.bits s.items e ≡ None) where
    -- the newest entry takes the edit back, and those before it do what they did
    pub made_back : (k : ℕ) → k ≤ 31 → undone_newest (suc k) (noted (entry_for s.items e) s.journal) (edited e s.items) ≡ undone_newest k s.journal s.items
    made_back k h =
        ap (undone_newest k (take 31 s.journal)) (undone_edit s.bits s.items e (kept.valid 0 (omega arith)) accepted)
        ∙ undone_front k 31 s.journal s.items h

    made_kept : WellKept (made s e None)
    made_kept = let long = noted_length (entry_for s.items e) s.journal in record { short = omega arith; valid = valid }
      where
        valid : (k : ℕ) → k ≤ length (noted (entry_for s.items e) s.journal) → Valid s.bits (undone_newest k (noted (entry_for s.items e) s.journal) (edited e s.items))
        valid zero h = edits_keep_valid s.bits s.items e (kept.valid 0 (omega arith)) accepted
        valid (suc k) h =
            let long = noted_length (entry_for s.items e) s.journal in
            rw (made_back k (omega arith)) (kept.valid k (omega arith))

  edit_kept : (e : Edit) (o : Option Refusal) → edit_refusal s.bits s.items e ≡ o → WellKept (made s e o)
  edit_kept e None is = made_kept e is
  edit_kept e (Some r) is = kept

undo_kept : (bits : List ℕ) (xs : List Item) (es : List Entry) → WellKept (record { bits = bits; items = xs; journal = es }) → WellKept (reverted (record { bits = bits; items = xs; journal = es }) es)
undo_kept bits xs [] kept = kept
undo_kept bits xs (e ∷ es) kept = record { short = omega (arith, kept.short); valid = λ k h. kept.valid (suc k) (omega arith) }

visit_kept : (s : State) (v : Visit) → WellKept s → WellKept (visited s v)
visit_kept s (edit e) kept = edit_kept s kept e (edit_refusal s.bits s.items e) refl
visit_kept s undo kept = undo_kept s.bits s.items s.journal kept
visit_kept s settle kept = kept

start_kept : (bits : List ℕ) (first : List Item) → Valid bits first → WellKept (fresh bits first)
start_kept bits first valid = record { short = omega arith; valid = always }
  where
    always : (k : ℕ) → k ≤ 0 → Valid bits (undone_newest k [] first)
    always zero h = valid
    always (suc k) h = valid

pub visits_keep : VisitsKeep
visits_keep = record { start = start_kept; visit = visit_kept }

kept_prop : (s : State) → IsProp (WellKept s)
kept_prop s u v = λ i. record { short = le_prop u.short v.short i; valid = λ k h. valid_prop s.bits _ (u.valid k h) (v.valid k h) i }

-- that a plan is well kept comes out of a ghost field
pub kept_from : (s : State) → ∥ WellKept s ∥₁ → WellKept s
kept_from s kept = ∥∥₁_elim kept (kept_prop s) (λ u. u)
