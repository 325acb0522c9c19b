-- A withdrawal keeps the invariant.
use Rattle.std.proofs.Common.{◌≡◌, refl}
use Rattle.items.specs.Items.{item_of, without_item}
use Rattle.items.specs.Journal.{noted}
use Rattle.items.specs.Ledger.{edit, withdrawn}
use Rattle.plan.specs.Journals.{entries_in}
use Rattle.plan.specs.Tables.{items_in}
use Rattle.plan.specs.Views.{view}
use Rattle.plan.proofs.Kept.{plan_kept, kept_after, accepted_from}
use Rattle.plan.proofs.Calls.{told, withdrawn_state}
use Rattle.plan.proofs.Plan.withdraw.Goals as goal

pub invariant_of-self : goal.invariant_of-self
invariant_of-self c =
    let p = c.args.self.now in
    let n = c.args.number in
    let is = told (view p) (withdrawn n) (view p).bits _ refl c.items.ensures c.in_ok-check_withdraw.ensures in
    let before : c.strike-before.result ≡ item_of n (items_in p.inner) = cc in
    let items : items_in c.strike-before.new.self ≡ without_item n (items_in p.inner) = cc in
    let journal : entries_in c.note.new.self ≡ noted (record { number = n; before = c.strike-before.result }) (entries_in p.journal) = cc in
    let state = withdrawn_state p n (accepted_from _ _ is) c.strike-before.result c.strike-before.new.self c.note.new.self before items journal in
    record { kept = kept_after (view p) _ (edit (withdrawn n)) (plan_kept p) state }
