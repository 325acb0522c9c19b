-- What the pass of `renew_windows` keeps.
use Rattle.std.proofs.Common.{◌≡◌, ℕ, ◌<◌, length}
use Rattle.tables.specs.Demands.{span}
use Rattle.consult.specs.Windows.{spans_of}
use Rattle.settle.specs.Passes.{after, window_by}
use Rattle.settle.proofs.windows.renew_windows.Given as goal

-- the windows that were passed are new
abbrev pub invariant-loop-at : goal.invariant-loop-at
invariant-loop-at g l = (length l.next ≡ 256) × ((k : ℕ) → k < l.at → span (spans_of l.next) k ≡ window_by after l.network.items.now (spans_of l.windows) l.answers k)
