-- The text of a line.
use Rattle.std.specs.Prelude.{ℕ, ◌+◌, ◌≤◌, List, length}
use Rattle.fronts.specs.Listed.{listed}
use Rattle.numerals.specs.declared.line.Line.{Line}

-- the bytes that are written
abbrev pub text_of : Line → List ℕ
text_of line = listed line.text

-- so many bytes more fit on the line
abbrev pub HasRoom : Line → ℕ → Type 0
HasRoom line more = length (text_of line) + more ≤ 128
