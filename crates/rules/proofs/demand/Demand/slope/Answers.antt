use Rattle.std.proofs.Common.{◌≡◌, ◌+◌, ◌≤◌, sym, ap, ◌∙◌, mul-le-mul, arith}
use Rattle.std.proofs.lemmas.List.{take_all}
use Rattle.service.specs.Rows.{Fit}
use Rattle.service.proofs.Checks.{rows_since}
use Rattle.bounds.specs.Equations.{summed}
use Rattle.bounds.proofs.Sums.{summed_in, summed_out, summed_take}
use Rattle.rules.specs.Demands.{steep}
use Rattle.rules.proofs.Slopes.{slopes_rise}
use Rattle.rules.proofs.demand.Demand.slope.Goals as goal
use Rattle.rules.proofs.demand.Demand.slope.Goals.{then-waits_for+else-sum-ge-ONE, else-waits_for}

pub loop-told-preserved : goal.loop-told-preserved
loop-told-preserved c =
    let d = c.args.self.now in
    elim c.if-waits_for.branch [
      | then-waits_for+else-sum-ge-ONE w ↦
          let in-it = summed_in steep d.priority c.args.rows.now.records.now c.loop-told.told-index c.loop-told-test.true (sym w.if-waits_for.ensures) in
          (omega (arith, in-it, w.sum-is, w.steepness-sum.ensures.value, c.loop-told.invariant.0), omega (arith, w.sum-is, w.if-sum-ge-ONE.false))
      | else-waits_for w ↦
          (omega (arith, summed_out steep d.priority c.args.rows.now.records.now c.loop-told.told-index c.loop-told-test.true (sym w.if-waits_for.ensures), w.sum-is, c.loop-told.invariant.0), omega (arith, w.sum-is, c.loop-told.invariant.1))
    ]

pub returns-then-sum-ge-ONE : goal.returns-then-sum-ge-ONE
returns-then-sum-ge-ONE c =
    let d = c.args.self.now in
    let in-it = summed_in steep d.priority c.args.rows.now.records.now c.loop-told.told-index c.loop-told-test.true (sym c.if-waits_for.ensures) in
    let each : Fit c.args.rows.now.records.now = rows_since c.args.rows.now.records.now c.args.rows.now.workable.all in
    let full : 4294967296 ≤ summed steep d.priority c.args.rows.now.records.now =
    omega (arith, in-it, summed_take steep d.priority c.args.rows.now.records.now (c.loop-told.told-index + 1), c.if-sum-ge-ONE.true, c.steepness-sum.ensures.value, c.loop-told.invariant.0) in
    record { value = omega (arith, full); slow = λ n. omega (arith, slopes_rise d.more n d.priority c.args.rows.now.records.now each, mul-le-mul {n₁ = n} {n₂ = n} (omega arith) full) }

pub returns : goal.returns
returns c =
    let d = c.args.self.now in
    let value : c.loop-told.sum ≡ summed steep d.priority c.args.rows.now.records.now =
    c.loop-told.invariant.0 ∙ ap (summed steep d.priority) (take_all _ _ c.loop-told-test.false) in
    record { value = omega (arith, value, c.loop-told.invariant.1); slow = λ n. rw value (slopes_rise d.more n d.priority c.args.rows.now.records.now (rows_since c.args.rows.now.records.now c.args.rows.now.workable.all)) }
