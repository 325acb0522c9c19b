-- What a settle comes to: the sweeps that it makes, and what it writes.
use Rattle.std.specs.Prelude.{◌≡◌, ℕ, ◌+◌, ◌-◌, ◌<◌, ◌≤◌, List, length, Some, None, Ok, Err, Result, ◌≢◌}
use Rattle.service.specs.declared.Record.{Record}
use Rattle.service.specs.Traces.{Trace}
use Rattle.items.specs.declared.Item.{Item}
use Rattle.items.specs.Items.{item_at}
use Rattle.tables.specs.Demands.{Span, span}
use Rattle.service.specs.Numbers.{Numbers}
use Rattle.tables.specs.Tables.{worst_at, AllBounded, table, Steady}
use Rattle.tables.specs.Stands.{TrueWindows}
use Rattle.settle.specs.declared.WindowRow.{WindowRow}
use Rattle.settle.specs.declared.Fault.{Fault}
use Rattle.settle.specs.declared.Fault.TheVariants.{Budget, TableShort, Unbounded, Unsettled}
use Rattle.settle.specs.Rows.{row_at, release_of, finish_of}

module _ (rule : Numbers) (bits : List ℕ) (xs : List Item) where
  -- the lowest item that has no worst in a sweep of a table
  pub record Lowest (ws : List Span) (at : ℕ) : Type 0 where
    pub within : at < length xs
    pub none : worst_at rule bits xs ws at ≡ None
    pub before : (k : ℕ) → k < at → (w : ℕ) × (worst_at rule bits xs ws k ≡ Some w)

  -- each of the first n sweeps gave a worst for every item and altered a window
  pub record Moving (n : ℕ) : Type 0 where
    pub bounded : (m : ℕ) → m < n → AllBounded rule bits xs (table rule bits xs m)
    pub altered : (m : ℕ) → m < n → table rule bits xs (m + 1) ≢ table rule bits xs m

  -- and the next gives a worst for every item, and alters none
  pub record Still (n : ℕ) : Type 0 where
    pub before : Moving n
    pub bounded : AllBounded rule bits xs (table rule bits xs n)
    pub same : table rule bits xs (n + 1) ≡ table rule bits xs n

  -- or the next has none for an item, the lowest of that number and on that resource, and so there is no steady table
  pub record Failing (n number resource : ℕ) : Type 0 where
    pub before : Moving n
    pub at : ℕ
    pub lowest : Lowest (table rule bits xs n) at
    pub item : number ≡ (item_at xs at).number
    pub on : resource ≡ (item_at xs at).resource
    pub hopeless : (vs : List Span) → Steady rule bits xs vs → ⊥

  -- what the sweeps come to within a budget; sweeps are counted from 1
  abbrev pub Ends : ℕ → Result ℕ Fault → Type 0
  Ends budget (Ok n) = (1 ≤ n) × (n ≤ budget) × Still (n - 1)
  Ends budget (Err Budget) = ⊥
  Ends budget (Err TableShort) = ⊥
  Ends budget (Err (Unbounded number resource n)) = (1 ≤ n) × (n ≤ budget) × Failing (n - 1) number resource
  Ends budget (Err Unsettled) = Moving budget

-- a budget is 1 to 10,000
abbrev pub Budgeted : ℕ → Type 0
Budgeted budget = (1 ≤ budget) × (budget ≤ 10000)

module _ (allows : ℕ → List Record → Trace → Type 0) (rule : Numbers) (bits : List ℕ) (xs : List Item) where
  -- the front of the caller's table holds the windows of a table, and they are true; the rest is as it was
  pub record Written (ws : List Span) (old new : List WindowRow) : Type 0 where
    pub size : length new ≡ length old
    pub numbers : (k : ℕ) → k < length xs → (row_at new k).number ≡ (item_at xs k).number
    pub releases : (k : ℕ) → k < length xs → release_of (row_at new k) ≡ span ws k
    pub finishes : TrueWindows allows rule bits xs ws (λ k. finish_of (row_at new k))
    pub rest : (k : ℕ) → length xs ≤ k → row_at new k ≡ row_at old k

  -- what a settle answers: the count of its sweeps, with the table written, or the first fault, with the table as it was
  abbrev pub Settled : ℕ → List WindowRow → List WindowRow → Result ℕ Fault → Type 0
  Settled budget old new (Ok n) = Budgeted budget × (length xs ≤ length old) × Ends rule bits xs budget (Ok n) × Written (table rule bits xs (n - 1)) old new
  Settled budget old new (Err Budget) = (Budgeted budget → ⊥) × (new ≡ old)
  Settled budget old new (Err TableShort) = Budgeted budget × (length old < length xs) × (new ≡ old)
  Settled budget old new (Err (Unbounded number resource n)) = Budgeted budget × (length xs ≤ length old) × Ends rule bits xs budget (Err (Unbounded number resource n)) × (new ≡ old)
  Settled budget old new (Err Unsettled) = Budgeted budget × (length xs ≤ length old) × Ends rule bits xs budget (Err Unsettled) × (new ≡ old)
