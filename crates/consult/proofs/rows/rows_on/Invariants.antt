-- What the walk of `rows_on` keeps.
use Rattle.std.proofs.Common.{◌≡◌, ℕ, ◌≤◌, List, ◌++◌, length, take, drop}
use Rattle.tables.specs.Demands.{rows_on}
use Rattle.consult.specs.Windows.{front}
use Rattle.consult.specs.Rows.{Based}
use Rattle.consult.proofs.rows.rows_on.Given as goal

-- the rows gathered, and those of what is left
abbrev pub invariant-loop-at : goal.invariant-loop-at
invariant-loop-at l =
    let xs = l.items in
    let ws = front (length xs) l.windows in
    (length l.rows ≡ 256) × (l.count ≤ l.at)
    × ((bits : List ℕ) → Based bits xs l.base → take l.count l.rows ++ rows_on bits xs l.resource (drop l.at xs) (drop l.at ws) ≡ rows_on bits xs l.resource xs ws)
