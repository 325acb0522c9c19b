-- What one pass over the windows of a plan's items makes of them, place by place.
use Rattle.std.specs.Prelude.{◌≡◌, ℕ, ◌+◌, ◌-◌, ◌<◌, ◌≤◌, Bool, true, false, List, length, Some, None, Option, ◌≢◌, slice_index_or}
use Rattle.service.specs.declared.Response.{Response}
use Rattle.items.specs.declared.Item.{Item}
use Rattle.items.specs.Items.{item_at}
use Rattle.tables.specs.Demands.{Span, span}
use Rattle.tables.specs.Tables.{worst_or_0}
use Rattle.consult.specs.Chains.{link_of}
use Rattle.consult.specs.Windows.{jitter_of}
use Rattle.consult.specs.Answers.{answer}

-- the numbers that a window can have
pub record Narrow (w : Span) : Type 0 where
  pub ordered : w.from ≤ w.to
  pub near : w.to ≤ w.from + 10000000
  pub high : w.from ≤ 5120000000

-- the two tables agree at the first places
abbrev pub Agree : List Span → List Span → ℕ → Type 0
Agree ws vs n = (k : ℕ) → k < n → span ws k ≡ span vs k

-- the window of a head
abbrev pub head_window : ℕ → Span
head_window delay = record { from = 0; to = delay }

-- the window of a finish by that of its release and the answer, which is that of a successor's release
abbrev pub after : Span → Response → Span
after w a = record { from = w.from + a.least; to = w.to + worst_or_0 a.worst }

-- the same with no response but the least, as in the first table
abbrev pub lead_after : Span → Response → Span
lead_after w a = record { from = w.from + a.least; to = w.from + a.least }

-- the window of an item that may have a predecessor at a place, by that one's window and the answer for it
abbrev pub window_from : (Span → Response → Span) → Item → List Span → List Response → Option ℕ → Span
window_from f x ws answers None = head_window x.delay
window_from f x ws answers (Some j) = f (span ws j) (answer answers j)

-- the window of the item at k
abbrev pub window_by : (Span → Response → Span) → List Item → List Span → List Response → ℕ → Span
window_by f xs ws answers k = window_from f (item_at xs k) ws answers (link_of xs (item_at xs k))

-- the windows after a sweep, from one table
abbrev pub Renewed : List Item → List Span → List Response → List Span → Type 0
Renewed xs ws answers vs = (k : ℕ) → k < length xs → span vs k ≡ window_by after xs ws answers k

-- the windows of the first table, each from an earlier one
abbrev pub Led : List Item → List Response → List Span → ℕ → Type 0
Led xs answers vs n = (k : ℕ) → k < n → span vs k ≡ window_by lead_after xs vs answers k

-- whether two tables differ
abbrev pub Differs : List Span → List Span → Bool → Type 0
Differs ws vs true = ws ≢ vs
Differs ws vs false = ws ≡ vs

-- the mark of an item's resource, the first resource's first
abbrev pub mark_of : List Bool → Item → Bool
mark_of marks x = slice_index_or marks (x.resource - 1) false

-- of the first n items, those of the resources not marked have windows of one length in both tables
abbrev pub Marked : List Item → List Span → List Span → List Bool → ℕ → Type 0
Marked xs ws vs marks n = (k : ℕ) → k < n → mark_of marks (item_at xs k) ≡ false → jitter_of (span ws k) ≡ jitter_of (span vs k)
