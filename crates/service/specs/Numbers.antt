-- What a rule answers, as one value.
use Rattle.std.specs.Prelude.{ℕ, List, Option}
use Rattle.service.specs.declared.Record.{Record}

-- the least and the worst response for a bit time, records and a place
pub record Numbers : Type 0 where
  pub least : ℕ → List Record → ℕ → ℕ
  pub worst : ℕ → List Record → ℕ → Option ℕ
