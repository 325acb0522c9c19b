-- Runs of a plan's items, and what it means that they keep to a table. A run is a trace whose rows go by the numbers of the items.
use Rattle.std.specs.Prelude.{◌≡◌, ℕ, ◌+◌, ◌<◌, ◌≤◌, true, List, length, Some}
use Rattle.service.specs.declared.Record.{Record}
use Rattle.service.specs.Traces.{Trace, Done, Finishes, Orderly}
use Rattle.items.specs.declared.Item.{Item}
use Rattle.items.specs.Items.{item_at}
use Rattle.items.specs.Conditions.{bit_time_of}
use Rattle.tables.specs.Demands.{Span, least_of, rows_on, items_on}

-- what a resource sees of a run: its rows go by their places
abbrev pub seen_on : List Item → ℕ → Trace → Trace
seen_on xs r run = record {
  ticks = run.ticks;
  arrives = λ p a. run.arrives (item_at (items_on r xs) p).number a;
  release = λ p a. run.release (item_at (items_on r xs) p).number a;
  demand = λ p a. run.demand (item_at (items_on r xs) p).number a;
  serves = λ p a t. run.serves (item_at (items_on r xs) p).number a t;
}

-- the rule `allows` a run of the items, its jitters from the table
pub record Allowed (allows : ℕ → List Record → Trace → Type 0) (bits : List ℕ) (xs : List Item) (ws : List Span) (run : Trace) : Type 0 where
  -- any two arrivals of a head are at least its period apart
  pub spaced : (k a b : ℕ) → k < length xs → (item_at xs k).predecessor ≡ 0 → run.arrives (item_at xs k).number a ≡ true → run.arrives (item_at xs k).number b ≡ true → a < b → a + (item_at xs k).period ≤ b
  -- each arrival gives a job to every item that follows
  pub follows : (j k a : ℕ) → j < length xs → k < length xs → (item_at xs k).predecessor ≡ (item_at xs j).number → run.arrives (item_at xs k).number a ≡ run.arrives (item_at xs j).number a
  -- a head's job is released within its delay
  pub heads : (k a : ℕ) → k < length xs → (item_at xs k).predecessor ≡ 0 → run.arrives (item_at xs k).number a ≡ true → (r : ℕ) × ((run.release (item_at xs k).number a ≡ Some r) × ((a ≤ r) × (r ≤ a + (item_at xs k).delay)))
  -- any other job is released when its predecessor's job is finished, and only then
  pub linked : (j k a r : ℕ) → j < length xs → k < length xs → (item_at xs k).predecessor ≡ (item_at xs j).number → (Finishes run (item_at xs j).number a r → run.release (item_at xs k).number a ≡ Some r) × (run.release (item_at xs k).number a ≡ Some r → Finishes run (item_at xs j).number a r)
  -- a job's demand is at least its item's least, so it is never 0
  pub asks : (k a : ℕ) → k < length xs → run.arrives (item_at xs k).number a ≡ true → least_of (bit_time_of bits (item_at xs k).resource) (item_at xs k).work ≤ run.demand (item_at xs k).number a
  -- each resource serves as its rule allows
  pub orderly : (r : ℕ) → 1 ≤ r → r ≤ length bits → Orderly (length (items_on r xs)) (seen_on xs r run)
  pub ruled : (r : ℕ) → 1 ≤ r → r ≤ length bits → allows (bit_time_of bits r) (rows_on bits xs r xs ws) (seen_on xs r run)

-- no job is finished before its finish window opens, and none is unfinished when it closes, if the run lasts until then
pub record Kept (xs : List Item) (finish : ℕ → Span) (run : Trace) : Type 0 where
  pub not_early : (k a f : ℕ) → k < length xs → Finishes run (item_at xs k).number a f → a + (finish k).from ≤ f
  pub not_late : (k a : ℕ) → k < length xs → run.arrives (item_at xs k).number a ≡ true → a + (finish k).to ≤ run.ticks → Done run (item_at xs k).number a (a + (finish k).to)
