-- What the worst responses are, in the words of their equations: the smallest solution, where it fits the period.
use Rattle.std.specs.Prelude.{◌≡◌, ℕ, ◌+◌, ◌<◌, ◌≤◌, ◌⊎◌, List, Some, None}
use Rattle.service.specs.declared.Record.{Record}
use Rattle.service.specs.Rows.{row}
use Rattle.bounds.specs.Numbers.{Smallest}
use Rattle.bounds.specs.Equations.{processor_step, bus_step, processor_worst, bus_worst}

-- on a processor: the smallest solution, if it and the jitter fit the period; none only if no solution does
pub record ProcessorWorstIs (rs : List Record) (p : ℕ) : Type 0 where
  pub some : (w : ℕ) → processor_worst rs p ≡ Some w → Smallest (processor_step rs p) w × ((row rs p).jitter + w ≤ (row rs p).period)
  pub none : processor_worst rs p ≡ None → (v : ℕ) → processor_step rs p v ≡ v → (row rs p).period < (row rs p).jitter + v

-- on a bus: the smallest wait and the frame itself, if they and the jitter fit the period; none only at bit time 0 or if no wait does
pub record BusWorstIs (bit : ℕ) (rs : List Record) (p : ℕ) : Type 0 where
  pub some : (w : ℕ) → bus_worst bit rs p ≡ Some w → (v : ℕ) × ((1 ≤ bit) × Smallest (bus_step bit rs p) v × (w ≡ v + (row rs p).greatest) × ((row rs p).jitter + w ≤ (row rs p).period))
  pub none : bus_worst bit rs p ≡ None → (bit ≡ 0) ⊎ ((v : ℕ) → bus_step bit rs p v ≡ v → (row rs p).period < (row rs p).jitter + (v + (row rs p).greatest))

abbrev pub WorstsAreSmallest : Type 0
WorstsAreSmallest = ((rs : List Record) (p : ℕ) → ProcessorWorstIs rs p) × ((bit : ℕ) (rs : List Record) (p : ℕ) → BusWorstIs bit rs p)
