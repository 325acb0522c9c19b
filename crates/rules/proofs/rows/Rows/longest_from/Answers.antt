use Rattle.std.proofs.Common.{◌≡◌, true, false, leb, ap, ◌∙◌, arith}
use Rattle.std.proofs.lemmas.List.{take_all}
use Rattle.std.proofs.lemmas.Bool.{le-leb, lt-leb}
use Rattle.service.specs.Rows.{row}
use Rattle.bounds.specs.Equations.{longest}
use Rattle.bounds.proofs.Sums.{longest_more}
use Rattle.rules.proofs.rows.Rows.longest_from.Goals as goal
use Rattle.rules.proofs.rows.Rows.longest_from.Goals.{then-priority-told, else-priority-told}

pub loop-told-preserved : goal.loop-told-preserved
loop-told-preserved c =
    let rs = c.args.self.now.records.now in
    let i = c.loop-told.told-index in
    let more = longest_more c.args.priority rs i c.loop-told-test.true in
    elim c.if-priority-told.branch [
      | then-priority-told w ↦
          let test : leb c.args.priority (row rs i).priority ≡ true = le-leb _ _ (omega (arith, w.if-priority-told.true)) in
          (omega (arith, rw test at more, w.most-is, w.max-most.ensures, c.loop-told.invariant.0), omega (arith, w.most-is, w.max-most.type_inv))
      | else-priority-told w ↦
          let test : leb c.args.priority (row rs i).priority ≡ false = lt-leb _ _ (omega (arith, w.if-priority-told.false)) in
          (omega (arith, rw test at more, w.most-is, c.loop-told.invariant.0), omega (arith, w.most-is, c.loop-told.invariant.1))
    ]

pub returns : goal.returns
returns c = c.loop-told.invariant.0 ∙ ap (longest c.args.priority) (take_all _ _ c.loop-told-test.false)
