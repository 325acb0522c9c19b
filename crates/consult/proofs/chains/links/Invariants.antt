-- What the walk of `links` keeps.
use Rattle.std.proofs.Common.{◌≡◌, ℕ, ◌<◌, length}
use Rattle.items.specs.Items.{item_at}
use Rattle.consult.specs.Chains.{link, link_of}
use Rattle.consult.proofs.chains.links.Given as goal

-- the places passed have their links
abbrev pub invariant-loop-at : goal.invariant-loop-at
invariant-loop-at l = (length l.places ≡ 256) × ((k : ℕ) → k < l.at → link l.places k ≡ link_of l.items (item_at l.items k))
