-- A placement leaves what the visit says, and keeps the invariant.
use Rattle.std.proofs.Common.{◌≡◌, None, Err, ap, ◌∙◌}
use Rattle.std.proofs.lemmas.Result.{err_from_is_err_and}
use Rattle.items.specs.Ledger.{edit, placed}
use Rattle.items.specs.Conditions.{place_refusal}
use Rattle.items.specs.Items.{with_item}
use Rattle.items.specs.Journal.{noted, visited}
use Rattle.plan.specs.Journals.{entries_in}
use Rattle.plan.specs.States.{state_of}
use Rattle.plan.specs.Tables.{items_in}
use Rattle.plan.specs.Views.{view}
use Rattle.plan.proofs.Kept.{plan_kept, kept_after, accepted_from, refused_from, state_refused}
use Rattle.plan.proofs.Calls.{told, place_room, placed_state}
use Rattle.plan.proofs.Plan.place.Goals as goal
use Rattle.plan.proofs.Plan.place.Goals.{After-note}

pub returns-in_err-check_place : goal.returns-in_err-check_place
returns-in_err-check_place c =
    let s = view c.args.self.now in
    let e = placed c.args.item in
    let out = err_from_is_err_and c.from_residual.result c.from_residual.ensures.1 in
    let is = told s e _ _ c.bit_times.ensures c.items.ensures c.in_err-check_place.ensures in
    record { answer = out.1 ∙ (ap Err out.2 ∙ is); state = state_refused s e _ (refused_from _ _ is) }

pub put-requires : goal.put-requires
put-requires c =
    let s = view c.args.self.now in
    let e = placed c.args.item in
    let is = told s e _ _ c.bit_times.ensures c.items.ensures c.in_ok-check_place.ensures in
    place_room c.args.self.now c.args.item (accepted_from _ _ is)

accepted : (c : After-note) → place_refusal (view c.args.self.now).bits (view c.args.self.now).items c.args.item ≡ None
accepted c =
    let s = view c.args.self.now in
    accepted_from _ _ (told s (placed c.args.item) _ _ c.bit_times.ensures c.items.ensures c.in_ok-check_place.ensures)

-- the plan's parts are those of the state after the visit
state : (c : After-note) → state_of c.args.self.now.resources c.put.new.self c.note.new.self ≡ visited (view c.args.self.now) (edit (placed c.args.item))
state c =
    let p = c.args.self.now in
    let x = c.args.item in
    let items : items_in c.put.new.self ≡ with_item x (items_in p.inner) = cc in
    let journal : entries_in c.note.new.self ≡ noted (record { number = x.number; before = None }) (entries_in p.journal) = cc in
    placed_state p x (accepted c) c.put.new.self c.note.new.self items journal

pub invariant_of-self : goal.invariant_of-self
invariant_of-self c =
    let p = c.args.self.now in
    record { kept = kept_after (view p) _ (edit (placed c.args.item)) (plan_kept p) (state c) }

pub returns : goal.returns
returns c =
    let s = view c.args.self.now in
    let is = told s (placed c.args.item) _ _ c.bit_times.ensures c.items.ensures c.in_ok-check_place.ensures in
    record { answer = is; state = state (goal.at.returns c).After-note }
