-- Visits as the ledger is told of them.
use Rattle.std.specs.Prelude.{ℕ, List, map, take}
use Rattle.items.specs.declared.Item.{Item}
use Rattle.items.specs.Ledger.{Ledger, edit, undo, settle, placed, withdrawn, retimed, opened, fed_all}
use Rattle.items.specs.Ledger.{Visit as Told}
use Rattle.visits.specs.declared.visit.Visit.{Visit}
use Rattle.visits.specs.declared.visit.Visit.TheVariants.{Place, Withdraw, Retime, Undo, Settle, Items}

-- the arguments alone; a settle and a list of the items change nothing
abbrev pub asked : {R : Type 0} → Visit R → Told
asked (Place x) = edit (placed x)
asked (Withdraw n) = edit (withdrawn n)
asked (Retime n w) = edit (retimed n w)
asked Undo = undo
asked (Settle rule budget rows) = settle
asked Items = settle

-- the ledger after the first k visits to a plan of these bit times and first items
abbrev pub ledger_after : {R : Type 0} → List ℕ → List Item → List (Visit R) → ℕ → Ledger
ledger_after bits first vs k = fed_all (opened bits first) (map asked (take k vs))
