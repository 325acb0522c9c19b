-- What the walk of `renew` keeps.
use Rattle.std.proofs.Common.{◌≡◌, ℕ, ◌-◌, ◌<◌, true, false, length, get_or}
use Rattle.items.specs.Items.{item_at}
use Rattle.items.specs.Conditions.{bit_time_of}
use Rattle.tables.specs.Demands.{rows_on, place_on}
use Rattle.consult.specs.Answers.{answer, Says}
use Rattle.consult.specs.Windows.{front}
use Rattle.consult.proofs.network.Network.renew.Given as goal

-- the items of the stale resources passed have their answers, and no answer of the others has changed
abbrev pub invariant-loop-resource : goal.invariant-loop-resource
invariant-loop-resource g l =
    let bits = l.self.bits.now in
    let xs = l.self.items.now in
    (length l.rows ≡ 256) × (length l.answers ≡ 256)
    × ((k : ℕ) → k < length xs → (item_at xs k).resource < l.resource → get_or l.stale ((item_at xs k).resource - 1) false ≡ true
    → Says (g.R.Rule.numbers l.self.rule.now) (bit_time_of bits (item_at xs k).resource) (rows_on bits xs (item_at xs k).resource xs (front (length xs) l.windows)) (place_on xs k) (answer l.answers k))
    × ((k : ℕ) → k < length xs → get_or l.stale ((item_at xs k).resource - 1) false ≡ false → answer l.answers k ≡ answer l.initial.answers k)
