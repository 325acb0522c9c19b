-- The response equations of a processor and of a bus.
use Rattle.std.specs.Prelude.{ℕ, ◌+◌, ◌*◌, max, cond, List, [], ◌∷◌, Some, None, Option, ◌==◌, nat_le, nat_lt}
use Rattle.service.specs.declared.Record.{Record}
use Rattle.service.specs.Rows.{row}
use Rattle.bounds.specs.Numbers.{ceiling, solution}

-- what a row's jobs can ask for in a stretch of n ticks, counting `more` ticks further
abbrev pub asks : ℕ → ℕ → Record → ℕ
asks more n r = ceiling (n + r.jitter + more) r.period * r.greatest

-- a number of each row above a priority, all added up
abbrev pub summed : (Record → ℕ) → ℕ → List Record → ℕ
summed f priority [] = 0
summed f priority (r ∷ rs) = cond (nat_lt r.priority priority) (f r) 0 + summed f priority rs

-- what the rows above a priority can ask for
abbrev pub above : ℕ → ℕ → ℕ → List Record → ℕ
above priority more n rs = summed (asks more n) priority rs

-- the longest frame at or below a priority
abbrev pub longest : ℕ → List Record → ℕ
longest priority [] = 0
longest priority (r ∷ rs) = max (cond (nat_le priority r.priority) r.greatest 0) (longest priority rs)

-- what a processor's row waits for: itself and the rows above it
abbrev pub processor_step : List Record → ℕ → ℕ → ℕ
processor_step rs p r = (row rs p).greatest + above (row rs p).priority 0 r rs

-- what a bus's row waits for before it begins: the longest of itself and the rows below, and the rows above it
abbrev pub bus_step : ℕ → List Record → ℕ → ℕ → ℕ
bus_step bit rs p w = longest (row rs p).priority rs + above (row rs p).priority bit w rs

-- a smallest solution counts only if response and jitter fit the period
abbrev pub fitting : Record → Option ℕ → Option ℕ
fitting r None = None
fitting r (Some w) = cond (nat_le (r.jitter + w) r.period) (Some w) None

-- the worst response on a processor
abbrev pub processor_worst : List Record → ℕ → Option ℕ
processor_worst rs p = fitting (row rs p) (solution (processor_step rs p) (row rs p).period)

-- so many ticks later
abbrev pub plus : ℕ → Option ℕ → Option ℕ
plus n None = None
plus n (Some w) = Some (w + n)

-- the worst response on a bus: the wait and the frame itself
abbrev pub bus_worst : ℕ → List Record → ℕ → Option ℕ
bus_worst bit rs p = cond (bit == 0) None (fitting (row rs p) (plus (row rs p).greatest (solution (bus_step bit rs p) (row rs p).period)))

-- the least response of both
abbrev pub least_demand : List Record → ℕ → ℕ
least_demand rs p = (row rs p).least
