-- The item in the front is the one that is lent.
use Rattle.std.proofs.Common.{◌≡◌, ◌∙◌, arith, get_or-take}
use lib.Seq.{take-set-lt}
use Rattle.items.specs.Items.{no_item, item_at, reworked}
use Rattle.fronts.proofs.Gaps.{counted}
use Rattle.plan.proofs.table.Table.rework.Goals as goal

pub returns : goal.returns
returns c =
    let f = c.args.self.now.items in
    let at = c.args.at in
    let below = c.requires in
    let own = get_or-take f.count f.slots at no_item (omega (arith, counted f)) in
    let worked : c.set_work.new.self ≡ reworked c.args.work (item_at f.slots at) = cc in
    take-set-lt f.count f.slots at _ (omega (arith, counted f)) ∙ cc
