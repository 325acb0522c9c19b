-- How the sweeps go on, and that the budget's last altered a window.
use Rattle.std.proofs.Common.{◌+◌, ◌-◌, ◌∙◌, arith}
use Rattle.settle.proofs.Moves.{made_by}
use Rattle.settle.proofs.sweeps.Sweeps.run.Goals as goal

pub loop-number-preserved : goal.loop-number-preserved
loop-number-preserved g c = (c.sweep.ensures.same ∙ c.loop-number.invariant.0, made_by _ _ _ _ (c.loop-number.number + 1 - 1) _ c.sweep.new.self.answers _ (omega arith) c.if-not-branch.false c.in_ok-sweep.ensures.swept)

pub returns-else-not-branch-clause-ends : goal.returns-else-not-branch-clause-ends
returns-else-not-branch-clause-ends g c = (made_by _ _ _ _ c.args.budget _ c.sweep.new.self.answers _ (omega arith) c.if-not-branch.false c.in_ok-sweep.ensures.swept).moving
