-- Why there is no replay.
use Rattle.std.specs.Prelude.{◌≡◌, ℕ, List, Some}
use Rattle.items.specs.Conditions.{open_refusal}
use Rattle.visits.specs.declared.replay.Stop.{Stop}
use Rattle.visits.specs.declared.replay.Stop.TheVariants.{Unopened, Memory}

-- the opening is refused, by its first condition met; or there is no memory, of which nothing is known
abbrev pub Stopped : List ℕ → Stop → Type 0
Stopped bits (Unopened r) = open_refusal bits ≡ Some r
Stopped bits Memory = Unit {0}
