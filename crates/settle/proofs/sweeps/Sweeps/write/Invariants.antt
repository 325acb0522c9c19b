-- What the pass of `write` keeps.
use Rattle.std.proofs.Common.{◌≡◌, ℕ, ◌<◌, ◌≤◌}
use Rattle.items.specs.Items.{item_at}
use Rattle.tables.specs.Demands.{span}
use Rattle.consult.specs.Answers.{answer}
use Rattle.consult.specs.Windows.{spans_of}
use Rattle.settle.specs.Rows.{row_at, row_for}
use Rattle.settle.proofs.sweeps.Sweeps.write.Given as goal

-- the rows that were passed are written, the others are as they were
abbrev pub invariant-loop-at : goal.invariant-loop-at
invariant-loop-at g l =
    ((k : ℕ) → k < l.at → row_at l.table k ≡ row_for (item_at l.self.network.now.items.now k).number (span (spans_of l.self.windows) k) (answer l.self.answers k))
    × ((k : ℕ) → l.at ≤ k → row_at l.table k ≡ row_at l.initial.table k)
