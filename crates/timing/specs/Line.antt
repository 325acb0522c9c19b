-- The runs that the rule of the program allows.
use Rattle.std.specs.Prelude.{ℕ, List}
use Rattle.service.specs.declared.Record.{Record}
use Rattle.service.specs.Traces.{Trace}
use Rattle.bounds.specs.Runs.{Processor, Bus}
use Rattle.rules.specs.Layers.{allows_by_bit}
use Rattle.rules.specs.Switches.{switched_allows}

-- a processor's under a switch of s ticks at bit time 0, a bus's at any other
abbrev pub allows_over : ℕ → ℕ → List Record → Trace → Type 0
allows_over s = allows_by_bit (λ _. switched_allows s Processor) (λ _. Bus)
