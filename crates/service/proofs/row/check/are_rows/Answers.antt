use Rattle.std.proofs.Common.{sym, ap, ◌∙◌}
use Rattle.std.proofs.lemmas.List.{take_all}
use Rattle.std.proofs.lemmas.List.Folds.{list_all_more, list_all_at}
use Rattle.std.specs.List.{list_all}
use Rattle.service.specs.Answers.{is_row}
use Rattle.service.specs.Rows.{no_record}
use Rattle.service.proofs.row.check.are_rows.Goals as goal

pub returns-then-not-is_row : goal.returns-then-not-is_row
returns-then-not-is_row c = sym (list_all_at is_row c.args.records.now c.loop-told.told-index no_record c.loop-told-test.true (sym c.if-not-is_row.ensures))

pub loop-told-preserved : goal.loop-told-preserved
loop-told-preserved c = list_all_more is_row c.args.records.now c.loop-told.told-index no_record c.loop-told-test.true ∙ rw (c.loop-told.invariant, sym c.if-not-is_row.ensures)

pub returns : goal.returns
returns c = sym (sym (ap (list_all is_row) (take_all _ _ c.loop-told-test.false)) ∙ c.loop-told.invariant)
