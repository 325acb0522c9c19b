-- What the processor and the bus rule answer.
use Rattle.service.specs.Answers.{answered_least, answered_worst}
use Rattle.service.specs.Numbers.{Numbers}
use Rattle.bounds.specs.Equations.{processor_worst, bus_worst, least_demand}

-- by the processor's equations, whatever the bit time
abbrev pub processor_numbers : Numbers
processor_numbers = record { least = λ _. answered_least least_demand; worst = λ _. answered_worst processor_worst }

-- by the bus's, which count the bit time
abbrev pub bus_numbers : Numbers
bus_numbers = record { least = λ _. answered_least least_demand; worst = λ bit. answered_worst (bus_worst bit) }
