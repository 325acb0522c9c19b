-- What a rule is told of one resource: a list of records, each of which may be a row.
use Rattle.std.specs.Prelude.{◌≡◌, ℕ, ◌<◌, ◌≤◌, List, length, slice_index_or}
use Rattle.service.specs.declared.Record.{Record}

-- the bounds within which a record is a row
pub record IsRow (r : Record) : Type 0 where
  pub period_low : 1 ≤ r.period
  pub period_high : r.period ≤ 10000000
  pub jitter_high : r.jitter ≤ 10000000
  pub least_low : 1 ≤ r.least
  pub least_high : r.least ≤ r.greatest
  pub greatest_high : r.greatest ≤ 20000000

-- what stands beyond a list
abbrev pub no_record : Record
no_record = record { priority = 0; period = 0; jitter = 0; least = 0; greatest = 0 }

-- the record at a place
abbrev pub row : List Record → ℕ → Record
row rs p = slice_index_or rs p no_record

-- every record is a row
abbrev pub Fit : List Record → Type 0
Fit rs = (p : ℕ) → p < length rs → IsRow (row rs p)

-- every record is a row, and no priority stands twice
pub record Rows (rs : List Record) : Type 0 where
  pub each : Fit rs
  pub apart : (p q : ℕ) → p < length rs → q < length rs → (row rs p).priority ≡ (row rs q).priority → p ≡ q

-- the same rows, but that each jitter in the second list is at least as large
pub record Looser (rs ss : List Record) : Type 0 where
  pub same_length : length rs ≡ length ss
  pub same_priority : (p : ℕ) → p < length rs → (row rs p).priority ≡ (row ss p).priority
  pub same_period : (p : ℕ) → p < length rs → (row rs p).period ≡ (row ss p).period
  pub same_least : (p : ℕ) → p < length rs → (row rs p).least ≡ (row ss p).least
  pub same_greatest : (p : ℕ) → p < length rs → (row rs p).greatest ≡ (row ss p).greatest
  pub jitter : (p : ℕ) → p < length rs → (row rs p).jitter ≤ (row ss p).jitter
