-- What every rule answers to bad input, and where it has numbers of its own to give.
use Rattle.std.specs.Prelude.{◌≡◌, ℕ, Bool, false, cond, ◌&&◌, List, length, None, Option, nat_le, nat_lt}
use Rattle.std.specs.List.{list_all}
use Rattle.service.specs.declared.Record.{Record}
use Rattle.service.specs.declared.Response.{Response}
use Rattle.service.specs.Rows.{row}

-- whether a record can be a row
abbrev pub is_row : Record → Bool
is_row r = nat_le 1 r.period && (nat_le r.period 10000000 && (nat_le r.jitter 10000000 && (nat_le 1 r.least && (nat_le r.least r.greatest && nat_le r.greatest 20000000))))

-- whether every record can
abbrev pub all_rows : List Record → Bool
all_rows rs = list_all is_row rs

-- whether a rule has numbers of its own to give: every record is a row, the place is among them, and they are 256 at most
abbrev pub admitted : List Record → ℕ → Bool
admitted rs p = all_rows rs && (nat_lt p (length rs) && nat_le (length rs) 256)

-- the least that every rule answers where it has not: the least demand if there are only too many rows, else 1
abbrev pub refused_least : List Record → ℕ → ℕ
refused_least rs p = cond (all_rows rs && nat_lt p (length rs)) (row rs p).least 1

-- the answer where a rule has no numbers of its own
pub record Refused (rs : List Record) (p : ℕ) (r : Response) : Type 0 where
  pub kept_out : admitted rs p ≡ false
  pub least : r.least ≡ refused_least rs p
  pub worst : r.worst ≡ None

-- a rule's numbers, where it has some, else what every rule answers
abbrev pub answered_least : (List Record → ℕ → ℕ) → List Record → ℕ → ℕ
answered_least of rs p = cond (admitted rs p) (of rs p) (refused_least rs p)

abbrev pub answered_worst : (List Record → ℕ → Option ℕ) → List Record → ℕ → Option ℕ
answered_worst of rs p = cond (admitted rs p) (of rs p) None
