-- What each visit is answered, by what the ledger holds then.
use Rattle.std.specs.Prelude.{◌≡◌, ℕ, ◌-◌, ◌<◌, ◌≤◌, List, length, Ok, Err, vec_items, Option, Result}
use Rattle.service.specs.declared.Record.{Record}
use Rattle.service.specs.Traces.{Trace}
use Rattle.items.specs.declared.Item.{Item}
use Rattle.items.specs.declared.Refusal.{Refusal}
use Rattle.items.specs.Items.{item_at}
use Rattle.items.specs.Refusals.{as_result}
use Rattle.tables.specs.Demands.{Span, span}
use Rattle.service.specs.Numbers.{Numbers}
use Rattle.tables.specs.Tables.{table}
use Rattle.tables.specs.Stands.{TrueWindows}
use Rattle.settle.specs.declared.WindowRow.{WindowRow}
use Rattle.settle.specs.declared.Fault.{Fault}
use Rattle.settle.specs.declared.Fault.TheVariants.{Budget, TableShort, Unbounded, Unsettled}
use Rattle.settle.specs.Rows.{row_at, release_of, finish_of}
use Rattle.settle.specs.Settled.{Ends, Budgeted}
use Rattle.visits.specs.declared.visit.Answer.{Answer}
use Rattle.visits.specs.declared.visit.Answer.TheVariants.{Edited, Settled, Unsettled as Sent, Listed}
use Rattle.visits.specs.declared.visit.SettledTable.{SettledTable}
use Rattle.visits.specs.declared.visit.Visit.{Visit}
use Rattle.visits.specs.declared.visit.Visit.TheVariants.{Place, Withdraw, Retime, Undo, Settle, Items}

module _ (allows : ℕ → List Record → Trace → Type 0) (rule : Numbers) (bits : List ℕ) (xs : List Item) where
  -- rows that hold the windows of a table, which are true
  pub record Tabled (ws : List Span) (rows : List WindowRow) : Type 0 where
    pub size : length rows ≡ length xs
    pub numbers : (k : ℕ) → k < length xs → (row_at rows k).number ≡ (item_at xs k).number
    pub releases : (k : ℕ) → k < length xs → release_of (row_at rows k) ≡ span ws k
    pub finishes : TrueWindows allows rule bits xs ws (λ k. finish_of (row_at rows k))

  -- what a settle of these items comes to
  abbrev pub SettlesAs : (budget rows : ℕ) → Result SettledTable Fault → Type 0
  SettlesAs budget rows (Ok t) = Budgeted budget × (length xs ≤ rows) × Ends rule bits xs budget (Ok t.sweeps) × Tabled (table rule bits xs (t.sweeps - 1)) (vec_items t.rows)
  SettlesAs budget rows (Err Budget) = Budgeted budget → ⊥
  SettlesAs budget rows (Err TableShort) = Budgeted budget × (rows < length xs)
  SettlesAs budget rows (Err (Unbounded number resource n)) = Budgeted budget × (length xs ≤ rows) × Ends rule bits xs budget (Err (Unbounded number resource n))
  SettlesAs budget rows (Err Unsettled) = Budgeted budget × (length xs ≤ rows) × Ends rule bits xs budget (Err Unsettled)

  -- and so it is answered
  abbrev pub SettleAnswered : (budget rows : ℕ) → Answer → Type 0
  SettleAnswered budget rows (Settled n t) = SettlesAs budget rows (Ok (record { sweeps = n; rows = t }))
  SettleAnswered budget rows (Sent f) = SettlesAs budget rows (Err f)
  SettleAnswered budget rows (Edited r) = ⊥
  SettleAnswered budget rows (Listed t) = ⊥

-- what a list of the items is answered
abbrev pub ListsAs : List Item → Answer → Type 0
ListsAs xs (Listed t) = vec_items t ≡ xs
ListsAs xs (Settled n t) = ⊥
ListsAs xs (Sent f) = ⊥
ListsAs xs (Edited r) = ⊥

-- the answer to a visit: an edit or an undo goes by its refusal, a settle by the rule, the bit times and the items
module _ {R : Type 0} (allows : R → ℕ → List Record → Trace → Type 0) (numbers : R → Numbers) (o : Option Refusal) (bits : List ℕ) (xs : List Item) where
  abbrev pub Right : Visit R → Answer → Type 0
  Right (Place x) a = a ≡ Edited (as_result o)
  Right (Withdraw n) a = a ≡ Edited (as_result o)
  Right (Retime n w) a = a ≡ Edited (as_result o)
  Right Undo a = a ≡ Edited (as_result o)
  Right (Settle rule budget rows) a = SettleAnswered (allows rule) (numbers rule) bits xs budget rows a
  Right Items a = ListsAs xs a
