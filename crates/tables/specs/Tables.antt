-- Tables of release windows, the sweep, and what makes a table steady. `least` and `worst` are what a rule answers.
use Rattle.std.specs.Prelude.{◌≡◌, ℕ, zero, suc, ◌+◌, ◌<◌, ◌≤◌, cond, List, map, length, replicate, Some, Option, unwrap_or, ◌==◌}
use Rattle.std.specs.List.{range_with_len}
use Rattle.service.specs.Numbers.{Numbers}
use Rattle.items.specs.declared.Item.{Item}
use Rattle.items.specs.Items.{item_at}
use Rattle.items.specs.Conditions.{bit_time_of}
use Rattle.tables.specs.Demands.{Span, nowhere, span, rows_on, place_on, place_of}

-- a worst, or 0 if there is none
abbrev pub worst_or_0 : Option ℕ → ℕ
worst_or_0 worst = unwrap_or worst 0

module _ (rule : Numbers) (bits : List ℕ) (xs : List Item) where
  -- the answers for the item at k, with every jitter from the table
  abbrev pub least_at : List Span → ℕ → ℕ
  least_at ws k = rule.least (bit_time_of bits (item_at xs k).resource) (rows_on bits xs (item_at xs k).resource xs ws) (place_on xs k)

  abbrev pub worst_at : List Span → ℕ → Option ℕ
  worst_at ws k = rule.worst (bit_time_of bits (item_at xs k).resource) (rows_on bits xs (item_at xs k).resource xs ws) (place_on xs k)

  -- every item has a worst
  abbrev pub AllBounded : List Span → Type 0
  AllBounded ws = (k : ℕ) → k < length xs → (w : ℕ) × (worst_at ws k ≡ Some w)

  -- the table with a window for each item: a head's runs from 0 to its delay, any other's goes by its place and its predecessor's
  abbrev pub table_by : (ℕ → ℕ → Span) → List Span
  table_by f = map (λ k. cond ((item_at xs k).predecessor == 0) (record { from = 0; to = (item_at xs k).delay }) (f k (place_of (item_at xs k).predecessor xs))) (range_with_len 0 (length xs))

  -- the table of empty windows, from which the first leasts come
  abbrev pub blank : List Span
  blank = replicate (length xs) nowhere

  -- the sum of the leasts of the items before the one at k in its chain, found in at most `fuel` steps back
  abbrev pub lead_within : ℕ → ℕ → ℕ
  lead_within zero k = 0
  lead_within (suc fuel) k = cond ((item_at xs k).predecessor == 0) 0 (lead_within fuel (place_of (item_at xs k).predecessor xs) + least_at blank (place_of (item_at xs k).predecessor xs))

  abbrev pub lead : ℕ → ℕ
  lead k = lead_within (length xs) k

  abbrev pub first_window : ℕ → ℕ → Span
  first_window k j = record { from = lead k; to = lead k }

  abbrev pub first_table : List Span
  first_table = table_by first_window

  -- a successor's new window runs from its predecessor's open + least to its close + worst
  abbrev pub next_window : List Span → ℕ → ℕ → Span
  next_window ws k j = record { from = (span ws j).from + least_at ws j; to = (span ws j).to + worst_or_0 (worst_at ws j) }

  -- the sweep: all windows from one table
  abbrev pub swept : List Span → List Span
  swept ws = table_by (next_window ws)

  -- the table after n sweeps
  abbrev pub table : ℕ → List Span
  table zero = first_table
  table (suc n) = swept (table n)

  -- a sweep gives a worst for every item and alters no window
  pub record Steady (ws : List Span) : Type 0 where
    pub size : length ws ≡ length xs
    pub bounded : AllBounded ws
    pub heads : (k : ℕ) → k < length xs → (item_at xs k).predecessor ≡ 0 → ((span ws k).from ≡ 0) × ((span ws k).to ≡ (item_at xs k).delay)
    pub links : (j k w : ℕ) → j < length xs → k < length xs → (item_at xs k).predecessor ≡ (item_at xs j).number → worst_at ws j ≡ Some w → ((span ws k).from ≡ (span ws j).from + least_at ws j) × ((span ws k).to ≡ (span ws j).to + w)

  -- no window of the first table opens elsewhere or closes later than in the second
  abbrev pub Below : List Span → List Span → Type 0
  Below ws vs = (k : ℕ) → k < length xs → ((span ws k).from ≡ (span vs k).from) × ((span ws k).to ≤ (span vs k).to)

  -- no steady table has a window that opens elsewhere or closes sooner
  pub record LeastSteady (ws : List Span) : Type 0 where
    pub steady : Steady ws
    pub least : (vs : List Span) → Steady vs → Below ws vs
