-- What one sweep comes to, and what the sweeps leave.
use Rattle.std.specs.Prelude.{◌≡◌, ℕ, ◌-◌, ◌<◌, Bool, true, false, List, length, Ok, Err, Result}
use Rattle.service.specs.declared.Response.{Response}
use Rattle.service.specs.Numbers.{Numbers}
use Rattle.items.specs.declared.Item.{Item}
use Rattle.items.specs.Items.{item_at}
use Rattle.tables.specs.Demands.{Span}
use Rattle.tables.specs.Tables.{least_at, worst_at, table}
use Rattle.consult.specs.Answers.{Answered, answer}
use Rattle.settle.specs.declared.Fault.{Fault}
use Rattle.settle.specs.declared.Fault.TheVariants.{Budget, TableShort, Unbounded, Unsettled}
use Rattle.settle.specs.Passes.{mark_of}
use Rattle.settle.specs.Settled.{Moving, Still, Failing}

module _ (rule : Numbers) (bits : List ℕ) (xs : List Item) where
  -- the answers for the items of the resources not marked are those of a table
  pub record Fresh (ws : List Span) (marks : List Bool) (answers : List Response) : Type 0 where
    pub least : (k : ℕ) → k < length xs → mark_of marks (item_at xs k) ≡ false → (answer answers k).least ≡ least_at rule bits xs ws k
    pub worst : (k : ℕ) → k < length xs → mark_of marks (item_at xs k) ≡ false → (answer answers k).worst ≡ worst_at rule bits xs ws k

  -- n sweeps were made, each of which altered a window, and the table is the one that they leave
  pub record Made (n : ℕ) (ws : List Span) : Type 0 where
    pub moving : Moving rule bits xs n
    pub is : ws ≡ table rule bits xs n

  -- what the sweep of a number comes to: a window altered, or none did and the answers are all there, or an item has no worst
  abbrev pub Swept : ℕ → List Span → List Response → Result Bool Fault → Type 0
  Swept n ws answers (Ok true) = Made n ws
  Swept n ws answers (Ok false) = Still rule bits xs (n - 1) × (ws ≡ table rule bits xs (n - 1)) × Answered rule bits xs ws answers
  Swept n ws answers (Err Budget) = ⊥
  Swept n ws answers (Err TableShort) = ⊥
  Swept n ws answers (Err (Unbounded number resource m)) = (m ≡ n) × Failing rule bits xs (n - 1) number resource
  Swept n ws answers (Err Unsettled) = ⊥

  -- what the sweeps leave where they end well: the table of the last one, and its answers
  abbrev pub Left : List Span → List Response → Result ℕ Fault → Type 0
  Left ws answers (Ok n) = (ws ≡ table rule bits xs (n - 1)) × Answered rule bits xs ws answers
  Left ws answers (Err e) = Unit {0}
