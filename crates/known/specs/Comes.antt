-- What a settle of a plan comes to under a rule, in the words of its contract.
use Rattle.std.specs.Prelude.{◌≡◌, ℕ, ◌-◌, List, length, Ok, Err}
use Rattle.items.specs.declared.Item.{Item}
use Rattle.items.specs.Valid.{Valid}
use Rattle.tables.specs.Demands.{Span, span}
use Rattle.service.specs.Numbers.{Numbers}
use Rattle.tables.specs.Tables.{table}
use Rattle.tables.specs.Stands.{FinishWindows}
use Rattle.settle.specs.declared.Fault.TheVariants.{Unbounded, Unsettled}
use Rattle.settle.specs.Settled.{Ends}

-- a window, counted from the arrival
abbrev pub window : (from to : ℕ) → Span
window from to = record { from = from; to = to }

module _ (rule : Numbers) (bits : List ℕ) (xs : List Item) (budget : ℕ) where
  -- the plan settles in so many sweeps, and these are the finish windows of the table that the last one leaves as it is, one for each item
  pub record SettlesTo (sweeps : ℕ) (finishes : List Span) : Type 0 where
    pub valid : Valid bits xs
    pub ends : Ends rule bits xs budget (Ok sweeps)
    pub size : length finishes ≡ length xs
    pub windows : FinishWindows rule bits xs (table rule bits xs (sweeps - 1)) (λ k. span finishes k)

  -- that sweep has no worst for the item on the resource
  pub record UnboundedAt (item resource sweep : ℕ) : Type 0 where
    pub valid : Valid bits xs
    pub ends : Ends rule bits xs budget (Err (Unbounded item resource sweep))

  -- the budget's last sweep altered a window
  pub record UnsettledWithin : Type 0 where
    pub valid : Valid bits xs
    pub ends : Ends rule bits xs budget (Err Unsettled)
