use Rattle.std.proofs.Common.{◌≡◌, true, take}
use Rattle.std.specs.List.{list_all}
use Rattle.service.specs.Answers.{is_row}
use Rattle.service.proofs.row.check.are_rows.Given as goal

abbrev pub invariant-loop-told : goal.invariant-loop-told
invariant-loop-told l = list_all is_row (take l.told-index l.records) ≡ true
