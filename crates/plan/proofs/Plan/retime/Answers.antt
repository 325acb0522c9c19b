-- A retime leaves what the visit says, and keeps the invariant.
use Rattle.std.proofs.Common.{◌≡◌, false, List, Some, None, Err, Option, sym, ap, ◌∙◌, subst}
use Rattle.std.proofs.lemmas.Result.{err_from_is_err_and}
use Rattle.items.specs.declared.Item.{Item}
use Rattle.items.specs.declared.Refusal.TheVariants.{NotStanding}
use Rattle.items.specs.Refusals.{as_result}
use Rattle.items.specs.Conditions.{stands, retime_of, retime_refusal}
use Rattle.items.specs.Journal.{visited}
use Rattle.items.specs.Ledger.{edit, retimed}
use Rattle.items.proofs.Places.{no_record}
use Rattle.plan.specs.States.{state_of}
use Rattle.plan.specs.Views.{view}
use Rattle.plan.proofs.Kept.{plan_kept, kept_after, accepted_from, refused_from, state_refused}
use Rattle.plan.proofs.Calls.{retime_told, retimed_state}
use Rattle.plan.proofs.Plan.retime.Goals as goal
use Rattle.plan.proofs.Plan.retime.Goals.{After-note}

pub returns-in_default : goal.returns-in_default
returns-in_default c =
    let s = view c.args.self.now in
    let n = c.args.number in
    let w = c.args.work in
    let out : stands n s.items ≡ false = subst (λ (xs : List Item). stands n xs ≡ false) c.items-items.ensures c.in_default.ensures in
    let is : retime_refusal s.bits s.items n w ≡ Some NotStanding = ap (λ (o : Option Item). retime_of s.bits o w) (no_record n s.items out) in
    record { answer = sym (ap as_result is); state = state_refused s (retimed n w) NotStanding is }

pub returns-in_err-check_retime : goal.returns-in_err-check_retime
returns-in_err-check_retime c =
    let p = c.args.self.now in
    let n = c.args.number in
    let w = c.args.work in
    let out = err_from_is_err_and c.from_residual.result c.from_residual.ensures.1 in
    let is = retime_told p n w c.in-Some.at _ c.items-items.ensures c.in-Some.ensures _ _ c.bit_times.ensures c.in_err-check_retime.ensures in
    record { answer = out.1 ∙ (ap Err out.2 ∙ is); state = state_refused (view p) (retimed n w) _ (refused_from _ _ is) }

accepted : (c : After-note) → retime_refusal (view c.args.self.now).bits (view c.args.self.now).items c.args.number c.args.work ≡ None
accepted c =
    accepted_from _ _ (retime_told c.args.self.now c.args.number c.args.work c.in-Some.at _ c.items-items.ensures c.in-Some.ensures _ _ c.bit_times.ensures c.in_ok-check_retime.ensures)

-- the plan's parts are those of the state after the visit
state : (c : After-note) → state_of c.args.self.now.resources c.rework.new.self c.note.new.self ≡ visited (view c.args.self.now) (edit (retimed c.args.number c.args.work))
state c =
    let p = c.args.self.now in
    retimed_state p c.args.number c.args.work c.in-Some.at _ c.items-items.ensures c.in-Some.ensures _ (accepted c) c.rework.new.self c.note.new.self c.rework.ensures c.note.ensures

pub invariant_of-self : goal.invariant_of-self
invariant_of-self c =
    let p = c.args.self.now in
    record { kept = kept_after (view p) _ (edit (retimed c.args.number c.args.work)) (plan_kept p) (state c) }

pub returns : goal.returns
returns c =
    let d = (goal.at.returns c).After-note in
    record { answer = sym (ap as_result (accepted d)); state = state d }
