use Rattle.std.proofs.Common.{◌≡◌, ◌<◌, take}
use Rattle.bounds.specs.Equations.{summed}
use Rattle.rules.specs.Demands.{steep}
use Rattle.rules.proofs.demand.Demand.slope.Given as goal

abbrev pub invariant-loop-told : goal.invariant-loop-told
invariant-loop-told l = (l.sum ≡ summed steep l.self.priority (take l.told-index l.rows.records.now)) × (l.sum < 4294967296)
