-- What the promises on windows assume can be met.
use Rattle.service.specs.Traces.{Finishes}
use Rattle.items.specs.Valid.{Valid}
use Rattle.tables.specs.Tables.{Steady}
use Rattle.tables.specs.Runs.{Allowed, Kept}
use Rattle.service.specs.Laws.{LawfulRule}
use Rattle.tables.specs.Stands.{FinishWindows}
use Rattle.sample.specs.Pair.{allows, numbers}
use Rattle.sample.specs.Plan.{bits, items, windows, finish, run}

-- a lawful rule, a valid plan, its steady table and an allowed run, in which both arrivals come to the end of their chain; so the run is kept
pub record Sample : Type 0 where
  pub lawful : LawfulRule allows numbers
  pub valid : Valid bits items
  pub steady : Steady numbers bits items windows
  pub opens : FinishWindows numbers bits items windows finish
  pub allowed : Allowed allows bits items windows run
  pub first : Finishes run 3 0 59
  pub second : Finishes run 3 200 259
  pub kept : Kept items finish run
