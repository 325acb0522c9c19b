use Rattle.std.proofs.Common.{◌≡◌, ℕ, ◌+◌, ◌*◌, ◌^◌, ◌≤◌, take}
use Rattle.std.specs.Fn.{FnReturnsAt}
use Rattle.service.specs.declared.Record.{Record}
use Rattle.service.specs.declared.row.Row.{Row}
use Rattle.bounds.specs.Equations.{summed}
use Rattle.rules.proofs.demand.Demand.add_up.Given as goal

abbrev pub invariant-loop-told : goal.invariant-loop-told
invariant-loop-told g l =
    ((f : Record → ℕ) → ((w : Row) (v : ℕ) → FnReturnsAt g.F.Fn l.of w v → v ≡ f w.told) → l.sum ≡ l.self.base + summed f l.self.priority (take l.told-index l.rows.records.now))
    × (l.sum ≤ 20000000 + l.told-index * 2 ^ 50)
