-- Places in a list of items: where a number stands, and where an item of a number belongs.
use Rattle.std.specs.Prelude.{◌≡◌, ℕ, ◌<◌, List, length, ◌≢◌, nat_lt}
use Rattle.std.specs.List.{position_or_len}
use Rattle.items.specs.declared.Item.{Item}
use Rattle.items.specs.Items.{item_at}

-- the number is at none of the first places
abbrev pub NotAmong : ℕ → List Item → ℕ → Type 0
NotAmong number xs places = (k : ℕ) → k < places → (item_at xs k).number ≢ number

-- the first place at which an item of that number stands
pub record First (number : ℕ) (xs : List Item) (at : ℕ) : Type 0 where
  pub within : at < length xs
  pub here : (item_at xs at).number ≡ number
  pub before : NotAmong number xs at

-- how many items stand before the first of a higher number
abbrev pub rank : ℕ → List Item → ℕ
rank number xs = position_or_len (λ x. nat_lt number x.number) xs
