-- What the sweeps keep.
use Rattle.std.proofs.Common.{◌≡◌, ◌-◌, length}
use Rattle.consult.specs.Windows.{front}
use Rattle.settle.specs.Sweeps.{Made}
use Rattle.settle.proofs.sweeps.Sweeps.run.Given as goal

-- the network stays, and every sweep before the next one altered a window
abbrev pub invariant-loop-number : goal.invariant-loop-number
invariant-loop-number g l =
    let network = l.self.network.now in
    (l.self.network ≡ l.initial.self.network) × Made (g.R.Rule.numbers network.rule.now) network.bits.now network.items.now (l.number - 1) (front (length network.items.now) l.self.windows)
