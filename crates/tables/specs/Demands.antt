-- What an item asks of its resource, and the rows of a resource.
use Rattle.std.specs.Prelude.{ℕ, zero, suc, ◌+◌, ◌-◌, ◌*◌, cond, List, [], ◌∷◌, length, take, Some, None, Option, ◌==◌, slice_index_or}
use Rattle.service.specs.declared.Record.{Record}
use Rattle.items.specs.declared.Item.{Item}
use Rattle.items.specs.declared.Work.{Work}
use Rattle.items.specs.declared.Work.TheVariants.{Task, Frame}
use Rattle.items.specs.Items.{item_of, item_at}
use Rattle.items.specs.Conditions.{bit_time_of}

-- the fewest and the most bits of a frame of s data bytes, the most with every stuff bit
abbrev pub least_of : ℕ → Work → ℕ
least_of bit (Task low high) = low
least_of bit (Frame s) = (47 + 8 * s) * bit

abbrev pub greatest_of : ℕ → Work → ℕ
greatest_of bit (Task low high) = high
greatest_of bit (Frame s) = (55 + 10 * s) * bit

-- the period of an item's head, found in at most `fuel` steps back
abbrev pub period_within : ℕ → List Item → Option Item → ℕ
period_within zero xs x = 0
period_within (suc k) xs None = 0
period_within (suc k) xs (Some x) = cond (x.predecessor == 0) x.period (period_within k xs (item_of x.predecessor xs))

abbrev pub period_of : List Item → Item → ℕ
period_of xs x = period_within (length xs) xs (Some x)

-- a window, counted from the arrival
pub record Span : Type 0 where
  pub from : ℕ
  pub to : ℕ

abbrev pub nowhere : Span
nowhere = record { from = 0; to = 0 }

abbrev pub span : List Span → ℕ → Span
span ws k = slice_index_or ws k nowhere

abbrev pub row_of : List ℕ → List Item → Item → Span → Record
row_of bits xs x w = record {
  priority = x.priority;
  period = period_of xs x;
  jitter = w.to - w.from;
  least = least_of (bit_time_of bits x.resource) x.work;
  greatest = greatest_of (bit_time_of bits x.resource) x.work;
}

-- the items on a resource, ascending
abbrev pub items_on : ℕ → List Item → List Item
items_on r [] = []
items_on r (x ∷ xs) = cond (x.resource == r) (x ∷ items_on r xs) (items_on r xs)

-- their rows, from a table with a window for each item; `all` are the items of the plan
abbrev pub rows_on : List ℕ → List Item → ℕ → List Item → List Span → List Record
rows_on bits all r [] ws = []
rows_on bits all r (x ∷ xs) [] = []
rows_on bits all r (x ∷ xs) (w ∷ ws) = cond (x.resource == r) (row_of bits all x w ∷ rows_on bits all r xs ws) (rows_on bits all r xs ws)

-- the place of the item at k among those on its resource
abbrev pub place_on : List Item → ℕ → ℕ
place_on xs k = length (items_on (item_at xs k).resource (take k xs))

-- the place of the item of a number, among all
abbrev pub place_of : ℕ → List Item → ℕ
place_of n [] = 0
place_of n (x ∷ xs) = cond (x.number == n) 0 (suc (place_of n xs))
