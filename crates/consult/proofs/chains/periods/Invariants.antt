-- What the walk of `periods` keeps.
use Rattle.std.proofs.Common.{◌≡◌, ℕ, ◌<◌, length, get_or}
use Rattle.items.specs.Items.{item_at}
use Rattle.tables.specs.Demands.{period_of}
use Rattle.consult.proofs.chains.periods.Given as goal

-- the places passed have their periods
abbrev pub invariant-loop-at : goal.invariant-loop-at
invariant-loop-at l = (length l.ticks ≡ 256) × ((k : ℕ) → k < l.at → get_or l.ticks k 0 ≡ period_of l.items (item_at l.items k))
