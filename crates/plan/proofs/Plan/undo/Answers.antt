-- An undo has room for the record that comes back, and keeps the invariant.
use Rattle.std.proofs.Common.{◌≡◌, Option, sym, ap, ◌∙◌}
use Rattle.items.specs.declared.Item.{Item}
use Rattle.items.specs.Items.{with_item, without_item}
use Rattle.items.specs.Journal.{restored, undone, visited}
use Rattle.items.specs.Ledger.{undo}
use Rattle.plan.specs.States.{state_of}
use Rattle.plan.specs.Tables.{items_in}
use Rattle.plan.specs.Views.{view}
use Rattle.plan.proofs.Kept.{plan_kept, kept_after}
use Rattle.plan.proofs.Calls.{undo_room, undone_state}
use Rattle.plan.proofs.Plan.undo.Goals as goal

pub put-requires : goal.put-requires
put-requires c =
    let p = c.args.self.now in
    let e = c.in-Some.newest in
    let gone : items_in c.strike-2.new.self ≡ without_item e.number (items_in p.inner) = cc in
    undo_room p e c.strike.new.self c.in-Some.ensures c.in-Some-before.record c.in-Some-before.is c.strike-2.new.self gone

pub invariant_of-self-in-Some-before : goal.invariant_of-self-in-Some-before
invariant_of-self-in-Some-before c =
    let p = c.args.self.now in
    let e = c.in-Some.newest in
    let x = c.in-Some-before.record in
    let gone : items_in c.strike-2.new.self ≡ without_item e.number (items_in p.inner) = cc in
    let room = undo_room p e c.strike.new.self c.in-Some.ensures x c.in-Some-before.is c.strike-2.new.self gone in
    let put : items_in c.put.new.self ≡ with_item x (items_in c.strike-2.new.self) = cc in
    let back : with_item x (without_item e.number (items_in p.inner)) ≡ undone e (items_in p.inner) = ap (λ (o : Option Item). restored o (without_item e.number (items_in p.inner))) (sym c.in-Some-before.is) in
    let state : state_of p.resources c.put.new.self c.strike.new.self ≡ visited (view p) undo = undone_state p e c.strike.new.self c.in-Some.ensures c.put.new.self (put ∙ (ap (with_item x) gone ∙ back)) in
    record { kept = kept_after (view p) _ undo (plan_kept p) state }

pub invariant_of-self-in_default-before : goal.invariant_of-self-in_default-before
invariant_of-self-in_default-before c =
    let p = c.args.self.now in
    let e = c.in-Some.newest in
    let gone : items_in c.strike-2.new.self ≡ without_item e.number (items_in p.inner) = cc in
    let back : without_item e.number (items_in p.inner) ≡ undone e (items_in p.inner) = ap (λ (o : Option Item). restored o (without_item e.number (items_in p.inner))) (sym c.in_default-before.is) in
    let state : state_of p.resources c.strike-2.new.self c.strike.new.self ≡ visited (view p) undo = undone_state p e c.strike.new.self c.in-Some.ensures c.strike-2.new.self (gone ∙ back) in
    record { kept = kept_after (view p) _ undo (plan_kept p) state }
