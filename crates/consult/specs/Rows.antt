-- The rows that a rule is told, from what stays over a settle and from a table's windows.
use Rattle.std.specs.Prelude.{◌≡◌, ℕ, ◌-◌, ◌<◌, List, length}
use Rattle.service.specs.declared.Record.{Record}
use Rattle.service.specs.Rows.{row}
use Rattle.items.specs.declared.Item.{Item}
use Rattle.items.specs.Items.{item_at}
use Rattle.tables.specs.Demands.{Span, nowhere, least_of, greatest_of, row_of}

-- an item's row of no jitter, from its bit time and its head's period
abbrev pub still_row : ℕ → Item → ℕ → Record
still_row bit x period = record {
  priority = x.priority;
  period = period;
  jitter = 0;
  least = least_of bit x.work;
  greatest = greatest_of bit x.work;
}

-- a row with the jitter of a window
abbrev pub widened : Span → Record → Record
widened w r = record {
  priority = r.priority;
  period = r.period;
  jitter = w.to - w.from;
  least = r.least;
  greatest = r.greatest;
}

-- each item's row of no jitter
abbrev pub Based : List ℕ → List Item → List Record → Type 0
Based bits xs rs = (k : ℕ) → k < length xs → row rs k ≡ row_of bits xs (item_at xs k) nowhere
