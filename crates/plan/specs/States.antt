-- What the parts of a plan stand for together.
use Rattle.std.specs.Prelude.{ℕ}
use Rattle.fronts.specs.declared.Front.{Front}
use Rattle.fronts.specs.Listed.{listed}
use Rattle.items.specs.Journal.{State}
use Rattle.plan.specs.declared.table.Table.{Table}
use Rattle.plan.specs.declared.journal.Journal.{Journal}
use Rattle.plan.specs.Tables.{items_in}
use Rattle.plan.specs.Journals.{entries_in}

-- bit times, items and entries
abbrev pub state_of : Front ℕ 16 → Table → Journal → State
state_of resources table journal = record { bits = listed resources; items = items_in table; journal = entries_in journal }
