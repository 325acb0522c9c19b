-- What the walk of `ask_each` keeps.
use Rattle.std.proofs.Common.{◌≡◌, ℕ, ◌<◌, ◌≤◌, length, take}
use Rattle.items.specs.Items.{item_at}
use Rattle.tables.specs.Demands.{items_on, place_on}
use Rattle.consult.specs.Answers.{answer, Says}
use Rattle.consult.proofs.network.Network.ask_each.Given as goal

-- the place counts the items on the resource, those passed have their answers, and no other answer has changed
abbrev pub invariant-loop-at : goal.invariant-loop-at
invariant-loop-at g l =
    let xs = l.self.items.now in
    (length l.answers ≡ 256) × (l.place ≡ length (items_on l.resource (take l.at xs))) × (l.place ≤ l.at)
    × ((k : ℕ) → k < l.at → (item_at xs k).resource ≡ l.resource → Says (g.R.Rule.numbers l.self.rule.now) l.bit_time l.rows (place_on xs k) (answer l.answers k))
    × ((k : ℕ) → ((item_at xs k).resource ≡ l.resource → ⊥) → answer l.answers k ≡ answer l.initial.answers k)
