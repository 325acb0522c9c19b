-- Ceilings and smallest solutions.
use Rattle.std.specs.Prelude.{◌≡◌, ℕ, zero, suc, ◌+◌, ◌-◌, ◌/◌, ◌≤◌, cond, Some, None, Option, ◌==◌, ◌≢◌}

-- n / d, rounded up
abbrev pub ceiling : ℕ → ℕ → ℕ
ceiling n d = (n + (d - 1)) / d

-- the smallest of `from` and the `many` numbers after it that the step leaves where it is
unfoldable pub solution_from : (ℕ → ℕ) → ℕ → ℕ → Option ℕ
solution_from step from zero = cond (step from == from) (Some from) None
solution_from step from (suc many) = cond (step from == from) (Some from) (solution_from step (from + 1) many)

-- the smallest number up to the limit that the step leaves where it is
abbrev pub solution : (ℕ → ℕ) → ℕ → Option ℕ
solution step limit = solution_from step 0 limit

-- the step never falls as its number rises
abbrev pub Rises : (ℕ → ℕ) → Type 0
Rises step = (m n : ℕ) → m ≤ n → step m ≤ step n

-- no solution is smaller
abbrev pub Under : (ℕ → ℕ) → ℕ → Type 0
Under step n = (k : ℕ) → step k ≡ k → n ≤ k

-- n is the smallest number that the step leaves where it is
pub record Smallest (step : ℕ → ℕ) (n : ℕ) : Type 0 where
  pub stays : step n ≡ n
  pub under : Under step n

-- there is no solution up to the limit
abbrev pub NoneUpTo : (ℕ → ℕ) → ℕ → Type 0
NoneUpTo step limit = (k : ℕ) → k ≤ limit → step k ≢ k
