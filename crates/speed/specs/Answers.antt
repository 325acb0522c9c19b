-- What the calls of the speed comparison answer.
use Rattle.std.specs.Prelude.{ℕ, Some, None, Option}

-- a worst response is 1 or more, so 0 stands for none
abbrev pub worst_or_0 : Option ℕ → ℕ
worst_or_0 None = 0
worst_or_0 (Some w) = w
