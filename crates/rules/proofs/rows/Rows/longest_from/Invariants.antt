use Rattle.std.proofs.Common.{◌≡◌, ◌^◌, ◌<◌, take}
use Rattle.bounds.specs.Equations.{longest}
use Rattle.rules.proofs.rows.Rows.longest_from.Given as goal

abbrev pub invariant-loop-told : goal.invariant-loop-told
invariant-loop-told l = (l.most ≡ longest l.priority (take l.told-index l.self.records.now)) × (l.most < 2 ^ 32)
