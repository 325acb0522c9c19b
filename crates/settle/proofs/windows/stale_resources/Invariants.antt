-- What the pass of `stale_resources` keeps.
use Rattle.std.proofs.Common.{◌≡◌, length}
use Rattle.consult.specs.Windows.{spans_of}
use Rattle.settle.specs.Passes.{Marked}
use Rattle.settle.proofs.windows.stale_resources.Given as goal

-- the items that were passed are of a marked resource, or their windows are as long
abbrev pub invariant-loop-at : goal.invariant-loop-at
invariant-loop-at g l = (length l.stale ≡ 16) × Marked l.network.items.now (spans_of l.windows) (spans_of l.next) l.stale l.at
