-- The verdict on an item's finish window.
use Rattle.std.specs.Prelude.{◌≡◌, ℕ, ◌+◌, cond, List, Ok, Err, Result, nat_lt}
use Rattle.items.specs.declared.Refusal.{Refusal}
use Rattle.items.specs.declared.Refusal.TheVariants.{NotStanding}
use Rattle.tables.specs.Demands.{Span}
use Rattle.settle.specs.declared.WindowRow.{WindowRow}
use Rattle.settle.specs.declared.verdict.Verdict.{Verdict}
use Rattle.settle.specs.Rows.{row_at, finish_of, Absent, FirstRow}

-- whether a window opens below the first bound, and whether it closes above the second
abbrev pub verdict_on : Span → ℕ → ℕ → Verdict
verdict_on w earliest latest = record { early = nat_lt w.from earliest; late = nat_lt latest w.to }

-- 1 for the first, and 2 for the second
abbrev pub verdict_number : Verdict → ℕ
verdict_number v = cond v.early 1 0 + cond v.late 2 0

-- the verdict on the item's first row, or a refusal if there is none
abbrev pub Judged : List WindowRow → ℕ → ℕ → ℕ → Result Verdict Refusal → Type 0
Judged rows item earliest latest (Ok v) = (at : ℕ) × (FirstRow item rows at × (v ≡ verdict_on (finish_of (row_at rows at)) earliest latest))
Judged rows item earliest latest (Err e) = Absent item rows × (e ≡ NotStanding)
