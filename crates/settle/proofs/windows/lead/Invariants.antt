-- What the pass of `lead` keeps.
use Rattle.std.proofs.Common.{◌≡◌, ℕ, ◌*◌, ◌<◌, ◌≤◌, length}
use Rattle.tables.specs.Demands.{span}
use Rattle.consult.specs.Windows.{spans_of}
use Rattle.settle.specs.Passes.{Led}
use Rattle.settle.proofs.windows.lead.Given as goal

-- the windows that were passed are those of the first table, and open low
abbrev pub invariant-loop-at : goal.invariant-loop-at
invariant-loop-at g l = (length l.windows ≡ 256) × Led l.network.items.now l.answers (spans_of l.windows) l.at × ((k : ℕ) → k < l.at → (span (spans_of l.windows) k).from ≤ 20000000 * k)
