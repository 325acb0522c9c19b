-- What the walk of `base_rows` keeps.
use Rattle.std.proofs.Common.{◌≡◌, ℕ, ◌<◌, length}
use Rattle.service.specs.Rows.{row}
use Rattle.items.specs.Items.{item_at}
use Rattle.tables.specs.Demands.{row_of, nowhere}
use Rattle.consult.proofs.rows.base_rows.Given as goal

-- the places passed have their rows
abbrev pub invariant-loop-at : goal.invariant-loop-at
invariant-loop-at l = (length l.base ≡ 256) × ((k : ℕ) → k < l.at → row l.base k ≡ row_of l.bits l.items (item_at l.items k) nowhere)
