-- The rule's numbers once more, by a search that stops at the solution: the same numbers, and quick to compute.
use Rattle.std.proofs.Common.{◌≡◌, ℕ, zero, suc, ◌+◌, Bool, true, false, cond, eqb, List, Some, None, Option, sym, refl, subst}
use Rattle.service.specs.declared.Record.{Record}
use Rattle.service.specs.Traces.{Trace}
use Rattle.service.specs.Rows.{row}
use Rattle.service.specs.Answers.{answered_least, answered_worst}
use Rattle.bounds.specs.Numbers.{solution_from}
use Rattle.bounds.specs.Equations.{processor_step, bus_step, fitting, plus, processor_worst, bus_worst, least_demand}
use Rattle.bounds.specs.Runs.{Processor, Bus}
use Rattle.rules.specs.Layers.{allows_by_bit, by_bit}
use Rattle.rules.specs.Switches.{switched_allows, switched_least, switched_worst}
use Rattle.rules.specs.Lawful.{processor_lawful, bus_lawful}
use Rattle.rules.specs.Switched.{switched_lawful}
use Rattle.service.specs.Numbers.{Numbers}
use Rattle.service.specs.Laws.{LawfulRule}
use Rattle.known.specs.Rule.{over}

-- the search goes on only where it has not found a solution
abbrev pub found_from : (ℕ → ℕ) → ℕ → ℕ → Option ℕ
found_from step from zero = cond (eqb (step from) from) (Some from) None
found_from step from (suc many) = elim (eqb (step from) from) [ true ↦ Some from | false ↦ found_from step (from + 1) many ]

found_is : (step : ℕ → ℕ) (from many : ℕ) → found_from step from many ≡ solution_from step from many
unfolding solution_from
found_is step from zero = refl
found_is step from (suc many) = go (eqb (step from) from) (found_is step (from + 1) many)
  where
    go : (b : Bool) → found_from step (from + 1) many ≡ solution_from step (from + 1) many
        → elim b [ true ↦ Some from | false ↦ found_from step (from + 1) many ] ≡ cond b (Some from) (solution_from step (from + 1) many)
    go true later = refl
    go false later = later

-- the worst responses by that search
abbrev processor_found : List Record → ℕ → Option ℕ
processor_found rs p = fitting (row rs p) (found_from (processor_step rs p) 0 (row rs p).period)

abbrev bus_found : ℕ → List Record → ℕ → Option ℕ
bus_found bit rs p = cond (eqb bit 0) None (fitting (row rs p) (plus (row rs p).greatest (found_from (bus_step bit rs p) 0 (row rs p).period)))

processor_same : processor_found ≡ processor_worst
processor_same = λ i rs p. fitting (row rs p) (found_is (processor_step rs p) 0 (row rs p).period i)

bus_same : bus_found ≡ bus_worst
bus_same = λ i bit rs p. cond (eqb bit 0) None (fitting (row rs p) (plus (row rs p).greatest (found_is (bus_step bit rs p) 0 (row rs p).period i)))

-- the rule's numbers from two worsts
abbrev by : ℕ → (List Record → ℕ → Option ℕ) → (ℕ → List Record → ℕ → Option ℕ) → Numbers
by s processor bus = record {
  least = by_bit (λ _. switched_least s (answered_least least_demand)) (λ _. answered_least least_demand);
  worst = by_bit (λ _. switched_worst s (answered_worst processor)) (λ bit. answered_worst (bus bit));
}

abbrev pub quick : ℕ → Numbers
quick s = by s processor_found bus_found

pub quick_same : (s : ℕ) → quick s ≡ over s
quick_same s = λ i. by s (processor_same i) (bus_same i)

-- the runs that the rule allows
abbrev pub allows : ℕ → ℕ → List Record → Trace → Type 0
allows s = allows_by_bit (λ _. switched_allows s Processor) (λ _. Bus)

over_lawful : (s : ℕ) → LawfulRule (allows s) (over s)
over_lawful s zero = switched_lawful s Processor (answered_least least_demand) (answered_worst processor_worst) processor_lawful
over_lawful s (suc bit) = bus_lawful (suc bit)

pub quick_lawful : (s : ℕ) → LawfulRule (allows s) (quick s)
quick_lawful s = subst (λ r. LawfulRule (allows s) r) (sym (quick_same s)) (over_lawful s)
