-- What the walk of `place_of_number` keeps.
use Rattle.std.proofs.Common.{◌≡◌, ◌+◌, drop}
use Rattle.tables.specs.Demands.{place_of}
use Rattle.consult.proofs.chains.place_of_number.Given as goal

-- the places passed, and the place in what is left
abbrev pub invariant-loop-at : goal.invariant-loop-at
invariant-loop-at l = l.at + place_of l.number (drop l.at l.items) ≡ place_of l.number l.items
