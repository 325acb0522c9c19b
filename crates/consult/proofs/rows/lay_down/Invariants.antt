-- What the walk of `lay_down` keeps.
use Rattle.std.proofs.Common.{◌≡◌, ℕ, ◌<◌, length}
use Rattle.service.specs.Rows.{row}
use Rattle.items.specs.Items.{item_at}
use Rattle.tables.specs.Demands.{row_of, nowhere}
use Rattle.consult.specs.Chains.{link, link_of}
use Rattle.consult.proofs.rows.lay_down.Given as goal

-- the places passed have their links and their rows
abbrev pub invariant-loop-at : goal.invariant-loop-at
invariant-loop-at l =
    (length l.places ≡ 256) × (length l.base ≡ 256)
    × ((k : ℕ) → k < l.at → link l.places k ≡ link_of l.items (item_at l.items k))
    × ((k : ℕ) → k < l.at → row l.base k ≡ row_of l.bits l.items (item_at l.items k) nowhere)
