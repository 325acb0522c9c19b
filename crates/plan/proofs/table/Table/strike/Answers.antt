-- What is taken out is the item of the number, and nothing where it does not stand.
use Rattle.std.proofs.Common.{◌≡◌, false, List, sym, ap, ◌∙◌, subst, Some}
use Rattle.std.proofs.lemmas.List.{get_or_default}
use Rattle.items.specs.declared.Item.{Item}
use Rattle.items.specs.Items.{no_item}
use Rattle.items.specs.Conditions.{stands}
use Rattle.items.specs.Places.{First}
use Rattle.items.proofs.Places.{no_record, record_at, without_at}
use Rattle.items.proofs.Undone.{without_absent}
use Rattle.plan.specs.Tables.{items_in}
use Rattle.plan.proofs.table.Table.strike.Goals as goal

pub returns-in_err-at : goal.returns-in_err-at
returns-in_err-at c =
    let n = c.args.number in
    let xs = items_in c.args.self.now in
    let out : stands n xs ≡ false = subst (λ (ys : List Item). stands n ys ≡ false) c.as_slice.ensures c.in_err-at.ensures in
    record { value = c.from_residual.ensures ∙ sym (no_record n xs out); list = sym (without_absent n xs out) }

pub returns : goal.returns
returns c =
    let n = c.args.number in
    let xs = items_in c.args.self.now in
    let at = c.in_ok-at.at in
    let first : First n xs at = subst (λ (ys : List Item). First n ys at) c.as_slice.ensures c.in_ok-at.ensures in
    let stood = c.remove.ensures.value ∙ get_or_default xs at _ no_item first.within in
    record {
      value = ap Some stood ∙ sym (record_at n xs at first);
      list = c.remove.ensures.list ∙ without_at n xs at first;
    }
