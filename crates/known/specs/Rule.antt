-- The rule of the known plans.
use Rattle.std.specs.Prelude.{ℕ}
use Rattle.service.specs.Numbers.{Numbers}
use Rattle.rules.specs.Answers.{processor_numbers, bus_numbers}
use Rattle.rules.specs.Layers.{numbers_by_bit}
use Rattle.rules.specs.Switches.{switched}

-- what the pair of a switch of s ticks over the processor, and the bus, answers
abbrev pub over : ℕ → Numbers
over s = numbers_by_bit (switched s processor_numbers) bus_numbers
