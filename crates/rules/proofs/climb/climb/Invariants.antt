use Rattle.std.proofs.Common.{◌+◌, ◌-◌, ◌^◌, ◌<◌}
use Rattle.bounds.specs.Numbers.{Under}
use Rattle.rules.proofs.climb.climb.Given as goal

abbrev pub invariant-rise : goal.invariant-rise
invariant-rise g l = Under (g.S.Step.to l.s l.rows.records.now) l.n × (l.n < 2 ^ 64) × (l.steps < 2 ^ 32)

abbrev pub decreases-rise : goal.decreases-rise
decreases-rise g l = l.most + 1 - l.n
