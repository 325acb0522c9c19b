-- What the layers over rules mean, from what the rules below mean.
use Rattle.std.specs.Prelude.{ℕ, zero, suc, List}
use Rattle.service.specs.declared.Record.{Record}
use Rattle.service.specs.Traces.{Trace}
use Rattle.service.specs.Numbers.{Numbers}
use Rattle.rules.specs.declared.either.Either.{Either}
use Rattle.rules.specs.declared.either.Either.TheVariants.{This, That}

-- the runs of the first at bit time 0, of the second at any other
abbrev pub allows_by_bit : (first second : ℕ → List Record → Trace → Type 0) → ℕ → List Record → Trace → Type 0
allows_by_bit first second zero = first zero
allows_by_bit first second (suc bit) = second (suc bit)

-- the answer of the first at bit time 0, of the second at any other
abbrev pub by_bit : {X : Type 0} → (first second : ℕ → X) → ℕ → X
by_bit first second zero = first zero
by_bit first second (suc bit) = second (suc bit)

-- so both numbers
abbrev pub numbers_by_bit : Numbers → Numbers → Numbers
numbers_by_bit first second = record { least = by_bit first.least second.least; worst = by_bit first.worst second.worst }

-- the runs of the one that it is
abbrev pub allows_of_either : {A B : Type 0} → (A → ℕ → List Record → Trace → Type 0) → (B → ℕ → List Record → Trace → Type 0) → Either A B → ℕ → List Record → Trace → Type 0
allows_of_either this that (This a) = this a
allows_of_either this that (That b) = that b

-- the answer of the one that it is
abbrev pub of_either : {A B X : Type 0} → (A → X) → (B → X) → Either A B → X
of_either this that (This a) = this a
of_either this that (That b) = that b
