-- What a switch makes of the rule below it.
use Rattle.std.specs.Prelude.{◌≡◌, ℕ, ◌+◌, ◌*◌, Bool, true, cond, List, map, None, Option, nat_le}
use Rattle.std.specs.List.{list_all}
use Rattle.service.specs.declared.Record.{Record}
use Rattle.service.specs.Traces.{Trace}
use Rattle.service.specs.Rows.{row}
use Rattle.service.specs.Numbers.{Numbers}
use Rattle.service.specs.Answers.{answered_least, answered_worst}

-- the record with twice the switch's ticks on its greatest demand
abbrev pub longer : ℕ → Record → Record
longer s r = record { priority = r.priority; period = r.period; jitter = r.jitter; least = r.least; greatest = r.greatest + 2 * s }

abbrev pub all_longer : ℕ → List Record → List Record
all_longer s rs = map (longer s) rs

-- whether no record passes 20,000,000 by that
abbrev pub roomy : ℕ → List Record → Bool
roomy s rs = list_all (λ r. nat_le (r.greatest + 2 * s) 20000000) rs

-- the runs of the rule below over the longer records; none where a record would pass
abbrev pub switched_allows : ℕ → (List Record → Trace → Type 0) → List Record → Trace → Type 0
switched_allows s below rs x = (roomy s rs ≡ true) × below (all_longer s rs) x

-- the numbers of the rule below over the longer records, or the least demand and none where a record would pass
abbrev pub longer_least : ℕ → (List Record → ℕ → ℕ) → List Record → ℕ → ℕ
longer_least s below rs p = cond (roomy s rs) (below (all_longer s rs) p) (row rs p).least

abbrev pub longer_worst : ℕ → (List Record → ℕ → Option ℕ) → List Record → ℕ → Option ℕ
longer_worst s below rs p = cond (roomy s rs) (below (all_longer s rs) p) None

-- and to bad input what every rule answers
abbrev pub switched_least : ℕ → (List Record → ℕ → ℕ) → List Record → ℕ → ℕ
switched_least s below rs p = answered_least (longer_least s below) rs p

abbrev pub switched_worst : ℕ → (List Record → ℕ → Option ℕ) → List Record → ℕ → Option ℕ
switched_worst s below rs p = answered_worst (longer_worst s below) rs p

-- both at every bit time
abbrev pub switched : ℕ → Numbers → Numbers
switched s below = record { least = λ bit. switched_least s (below.least bit); worst = λ bit. switched_worst s (below.worst bit) }
