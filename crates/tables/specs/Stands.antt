-- What windows promise, and what the sweeps come to.
use Rattle.std.specs.Prelude.{◌≡◌, ℕ, ◌+◌, ◌-◌, ◌*◌, ◌<◌, ◌≤◌, List, length, Some, None}
use Rattle.service.specs.declared.Record.{Record}
use Rattle.service.specs.Traces.{Trace}
use Rattle.items.specs.declared.Item.{Item}
use Rattle.items.specs.Valid.{Valid}
use Rattle.tables.specs.Demands.{Span, span}
use Rattle.service.specs.Numbers.{Numbers}
use Rattle.tables.specs.Tables.{AllBounded, lead, swept, table, Steady, Below, LeastSteady, least_at, worst_at}
use Rattle.tables.specs.Runs.{Allowed, Kept}

-- the finish windows of a table
pub record FinishWindows (rule : Numbers) (bits : List ℕ) (xs : List Item) (ws : List Span) (finish : ℕ → Span) : Type 0 where
  pub opens : (k : ℕ) → k < length xs → (finish k).from ≡ (span ws k).from + least_at rule bits xs ws k
  pub closes : (k w : ℕ) → k < length xs → worst_at rule bits xs ws k ≡ Some w → (finish k).to ≡ (span ws k).to + w

-- what a settle that gives a table promises
pub record TrueWindows (allows : ℕ → List Record → Trace → Type 0) (rule : Numbers) (bits : List ℕ) (xs : List Item) (ws : List Span) (finish : ℕ → Span) : Type 0 where
  pub least : LeastSteady rule bits xs ws
  pub windows : FinishWindows rule bits xs ws finish
  pub kept : (run : Trace) → Allowed allows bits xs ws run → Kept xs finish run

-- every allowed run keeps to the finish windows of a steady table
abbrev pub Sound : (ℕ → List Record → Trace → Type 0) → Numbers → Type 0
Sound allows rule =
    (bits : List ℕ) (xs : List Item) (ws : List Span) (finish : ℕ → Span) → Valid bits xs → Steady rule bits xs ws → FinishWindows rule bits xs ws finish
    → (run : Trace) → Allowed allows bits xs ws run → Kept xs finish run

-- the tables that a settle meets: every table before had a worst for every item
abbrev pub Reached : Numbers → List ℕ → List Item → ℕ → Type 0
Reached rule bits xs n = (m : ℕ) → m < n → AllBounded rule bits xs (table rule bits xs m)

-- how large the numbers of a window are
pub record InRange (rule : Numbers) (bits : List ℕ) (xs : List Item) (ws : List Span) (k : ℕ) : Type 0 where
  pub ordered : (span ws k).from ≤ (span ws k).to
  pub jitter : (span ws k).to - (span ws k).from ≤ 10000000
  pub opens : (span ws k).from ≡ lead rule bits xs k
  pub high : (span ws k).from ≤ 20000000 * k

-- what the sweeps come to
pub record Settles (allows : ℕ → List Record → Trace → Type 0) (rule : Numbers) (bits : List ℕ) (xs : List Item) : Type 0 where
  -- a table is steady if and only if a sweep gives a worst for every item and alters no window
  pub steady : (ws : List Span) → AllBounded rule bits xs ws → swept rule bits xs ws ≡ ws → Steady rule bits xs ws
  pub unaltered : (ws : List Span) → Steady rule bits xs ws → swept rule bits xs ws ≡ ws
  -- if there is a steady table, every table of the sweeps is below it and has a worst for every item
  pub below : (n : ℕ) (vs : List Span) → Steady rule bits xs vs → Below rule bits xs (table rule bits xs n) vs
  pub bounded : (n : ℕ) (vs : List Span) → Steady rule bits xs vs → AllBounded rule bits xs (table rule bits xs n)
  -- so an item without a worst shows that there is none
  pub none : (n k : ℕ) → k < length xs → worst_at rule bits xs (table rule bits xs n) k ≡ None → (vs : List Span) → Steady rule bits xs vs → ⊥
  -- and a sweep that alters nothing has found the least, whose windows are true
  pub least : (n : ℕ) → AllBounded rule bits xs (table rule bits xs n) → table rule bits xs (n + 1) ≡ table rule bits xs n → LeastSteady rule bits xs (table rule bits xs n)
  pub true_windows : (n : ℕ) → AllBounded rule bits xs (table rule bits xs n) → table rule bits xs (n + 1) ≡ table rule bits xs n
      → (finish : ℕ → Span) → FinishWindows rule bits xs (table rule bits xs n) finish → TrueWindows allows rule bits xs (table rule bits xs n) finish
  -- the tables on the way keep in range, and so do their answers
  pub in_range : (n : ℕ) → Reached rule bits xs n → (k : ℕ) → k < length xs → InRange rule bits xs (table rule bits xs n) k
  pub least_range : (n : ℕ) → Reached rule bits xs n → (k : ℕ) → k < length xs → (1 ≤ least_at rule bits xs (table rule bits xs n) k) × (least_at rule bits xs (table rule bits xs n) k ≤ 20000000)
  pub worst_range : (n : ℕ) → Reached rule bits xs n → (k w : ℕ) → k < length xs → worst_at rule bits xs (table rule bits xs n) k ≡ Some w
      → (least_at rule bits xs (table rule bits xs n) k ≤ w) × ((span (table rule bits xs n) k).to - (span (table rule bits xs n) k).from + w ≤ 10000000)
  -- once every item has had a worst, windows open lower
  pub opens_low : AllBounded rule bits xs (table rule bits xs 0) → (k : ℕ) → k < length xs → lead rule bits xs k ≤ 10000000 * k

abbrev pub Settling : (ℕ → List Record → Trace → Type 0) → Numbers → Type 0
Settling allows rule = (bits : List ℕ) (xs : List Item) → Valid bits xs → Settles allows rule bits xs
