-- The answers of a rule for every item, in the front of an array.
use Rattle.std.specs.Prelude.{◌≡◌, ℕ, ◌<◌, List, Some, None}
use Rattle.service.specs.declared.Response.{Response}
use Rattle.consult.specs.Answers.{answer}

-- the answers at the first places have a worst
abbrev pub AllAnswered : List Response → ℕ → Type 0
AllAnswered answers count = (k : ℕ) → k < count → (w : ℕ) × ((answer answers k).worst ≡ Some w)

-- the lowest place that has none
pub record LowestNone (answers : List Response) (count at : ℕ) : Type 0 where
  pub within : at < count
  pub none : (answer answers at).worst ≡ None
  pub before : AllAnswered answers at
