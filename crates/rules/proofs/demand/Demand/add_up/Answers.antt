use Rattle.std.proofs.Common.{refl, sym, arith}
use Rattle.std.proofs.lemmas.Fn.{says_at}
use Rattle.bounds.proofs.Sums.{summed_in, summed_out}
use Rattle.rules.proofs.demand.Demand.add_up.Goals as goal
use Rattle.rules.proofs.demand.Demand.add_up.Goals.{then-waits_for, else-waits_for}

pub loop-told-preserved : goal.loop-told-preserved
loop-told-preserved g c =
    let p = c.args.self.now.priority in
    let rs = c.args.rows.now.records.now in
    let i = c.loop-told.told-index in
    elim c.if-waits_for.branch [
      | then-waits_for w ↦ (
        λ f computes. omega (arith, summed_in f p rs i c.loop-told-test.true (sym w.if-waits_for.ensures), w.sum-is, computes _ _ (says_at g.F.Fn w.of-sum.ensures refl), c.loop-told.invariant.0 f computes),
        omega (arith, w.sum-is, c.requires.bound _ _ (says_at g.F.Fn w.of-sum.ensures refl), c.loop-told.invariant.1),
      )
      | else-waits_for w ↦
          (λ f computes. omega (arith, summed_out f p rs i c.loop-told-test.true (sym w.if-waits_for.ensures), w.sum-is, c.loop-told.invariant.0 f computes), omega (arith, w.sum-is, c.loop-told.invariant.1))
    ]

pub overflow_add-sum : goal.overflow_add-sum
overflow_add-sum g c = omega (arith, c.requires.bound _ _ (says_at g.F.Fn c.of-sum.ensures refl), c.loop-told.invariant.1)
