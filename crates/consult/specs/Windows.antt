-- A window as a span, and a table of windows as a list of spans.
use Rattle.std.specs.Prelude.{ℕ, ◌-◌, List, map, take}
use Rattle.tables.specs.Demands.{Span}
use Rattle.consult.specs.declared.window.Window.{Window}

abbrev pub span_of : Window → Span
span_of w = record { from = w.«open»; to = w.close }

abbrev pub spans_of : List Window → List Span
spans_of ws = map span_of ws

-- the table in the front of an array
abbrev pub front : ℕ → List Window → List Span
front n ws = spans_of (take n ws)

-- how long a window is
abbrev pub jitter_of : Span → ℕ
jitter_of w = w.to - w.from
