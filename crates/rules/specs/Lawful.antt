-- The two rules are lawful, and answer numbers of their own where they can work with the records.
use Rattle.std.specs.Prelude.{◌≡◌, ℕ, ◌<◌, true, List, length, Option, refl}
use Rattle.std.proofs.Common.{ap, ◌∙◌}
use Rattle.service.specs.declared.Record.{Record}
use Rattle.service.specs.declared.row.Row.{Row}
use Rattle.service.specs.Rows.{row, Fit}
use Rattle.service.specs.Laws.{Lawful}
use Rattle.service.specs.Answers.{admitted, answered_least, answered_worst}
use Rattle.service.proofs.Checks.{Admits, admits}
use Rattle.service.proofs.Answered.{answered_lawful}
use Rattle.bounds.specs.Equations.{processor_worst, bus_worst, least_demand}
use Rattle.bounds.specs.Runs.{Processor, Bus}
use Rattle.bounds.proofs.Jobs.{processor_patient, bus_patient}
use Rattle.bounds.proofs.Ranges.{processor_ranged, bus_ranged}
use Rattle.bounds.proofs.Rises.{processor_rising, bus_rising}
use Rattle.bounds.proofs.ProcessorBound.{processor_bounded}
use Rattle.bounds.proofs.BusBound.{bus_bounded}
use Rattle.rules.specs.Workable.{Workable}

-- the least response of both rules is the least demand, also where there are too many rows
demand_itself : (rs : List Record) (p : ℕ) → Fit rs → p < length rs → 256 < length rs → least_demand rs p ≡ (row rs p).least
demand_itself rs p each h many = refl

-- a rule that has numbers of its own can work with the records
pub works : (rs : List Record) (p : ℕ) → admitted rs p ≡ true → Workable rs × (p < length rs)
works rs p e = let a : Admits rs p = admits rs p e in (record { all = a.all; few = a.few }, a.place)

-- and answers them
pub own_answers : (worst : List Record → ℕ → Option ℕ) (rs : List Record) (p : ℕ) (w : Row) → (admitted rs p ≡ true) × (w.told ≡ row rs p)
    → (w.told.least ≡ answered_least least_demand rs p) × (worst rs p ≡ answered_worst worst rs p)
own_answers worst rs p w told = let on : admitted rs p ≡ true = told.0 in (ap (λ (r : Record). r.least) told.1 ∙ rw on refl, rw on refl)

pub processor_lawful : Lawful Processor (answered_least least_demand) (answered_worst processor_worst)
processor_lawful = answered_lawful least_demand processor_worst demand_itself Processor processor_bounded processor_patient processor_rising processor_ranged

pub bus_lawful : (bit : ℕ) → Lawful Bus (answered_least least_demand) (answered_worst (bus_worst bit))
bus_lawful bit = answered_lawful least_demand (bus_worst bit) demand_itself Bus (bus_bounded bit) bus_patient (bus_rising bit) (bus_ranged bit)
