-- The rows of a caller's table.
use Rattle.std.specs.Prelude.{◌≡◌, ℕ, ◌+◌, ◌<◌, List, length, ◌≢◌, slice_index_or}
use Rattle.service.specs.declared.Response.{Response}
use Rattle.tables.specs.Demands.{Span}
use Rattle.tables.specs.Tables.{worst_or_0}
use Rattle.settle.specs.declared.WindowRow.{WindowRow}

-- what a read past the end gives
abbrev pub no_row : WindowRow
no_row = record { number = 0; «open» = 0; close = 0; finish_open = 0; finish_close = 0 }

abbrev pub row_at : List WindowRow → ℕ → WindowRow
row_at rows k = slice_index_or rows k no_row

-- the two windows of a row
abbrev pub release_of : WindowRow → Span
release_of r = record { from = r.«open»; to = r.close }

abbrev pub finish_of : WindowRow → Span
finish_of r = record { from = r.finish_open; to = r.finish_close }

-- no row has that number
abbrev pub Absent : ℕ → List WindowRow → Type 0
Absent n rows = (k : ℕ) → k < length rows → (row_at rows k).number ≢ n

-- the first row of that number
pub record FirstRow (n : ℕ) (rows : List WindowRow) (at : ℕ) : Type 0 where
  pub within : at < length rows
  pub here : (row_at rows at).number ≡ n
  pub before : (k : ℕ) → k < at → (row_at rows k).number ≢ n

-- the row of an item: its release window, and its finish window after the answer
abbrev pub row_for : ℕ → Span → Response → WindowRow
row_for n w a = record { number = n; «open» = w.from; close = w.to; finish_open = w.from + a.least; finish_close = w.to + worst_or_0 a.worst }
