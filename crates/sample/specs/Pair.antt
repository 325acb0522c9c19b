-- The pair of the processor and the bus rule, as its contracts say what it means.
use Rattle.std.specs.Prelude.{ℕ, List}
use Rattle.service.specs.declared.Record.{Record}
use Rattle.service.specs.Traces.{Trace}
use Rattle.bounds.specs.Runs.{Processor, Bus}
use Rattle.rules.specs.Answers.{processor_numbers, bus_numbers}
use Rattle.rules.specs.Layers.{allows_by_bit, numbers_by_bit}
use Rattle.service.specs.Numbers.{Numbers}

-- the runs of a processor at bit time 0, of a bus at any other
abbrev pub allows : ℕ → List Record → Trace → Type 0
allows = allows_by_bit (λ _. Processor) (λ _. Bus)

-- and what the two rules answer
abbrev pub numbers : Numbers
numbers = numbers_by_bit processor_numbers bus_numbers
