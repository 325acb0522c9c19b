-- What the arithmetic of the rules leans on.
use Rattle.std.specs.Prelude.{◌≡◌, ◌≤◌, true, List, length}
use Rattle.service.specs.declared.Record.{Record}
use Rattle.service.specs.Answers.{all_rows}

-- every record is a row, and they are 256 at most
pub record Workable (rs : List Record) : Type 0 where
  pub all : all_rows rs ≡ true
  pub few : length rs ≤ 256
