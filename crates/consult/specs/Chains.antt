-- What is laid down of a plan's chains, for each item.
use Rattle.std.specs.Prelude.{◌≡◌, ℕ, ◌<◌, cond, List, length, Some, None, Option, ◌==◌, slice_index, slice_index_or}
use Rattle.items.specs.declared.Item.{Item}
use Rattle.items.specs.Items.{item_at}
use Rattle.items.specs.Valid.{Valid}
use Rattle.tables.specs.Demands.{place_of, period_of}

-- the items are valid, whatever the bit times
abbrev pub SomeValid : List Item → Type 0
SomeValid xs = (bits : List ℕ) × Valid bits xs

-- where the predecessor of an item stands; a head has none
abbrev pub link_of : List Item → Item → Option ℕ
link_of xs x = cond (x.predecessor == 0) None (Some (place_of x.predecessor xs))

-- the link at a place
abbrev pub link : List (Option ℕ) → ℕ → Option ℕ
link ls k = slice_index_or ls k None

-- where each item's predecessor stands
abbrev pub Linked : List Item → List (Option ℕ) → Type 0
Linked xs ls = (k : ℕ) → k < length xs → link ls k ≡ link_of xs (item_at xs k)

-- the period of each item's head
abbrev pub Timed : List Item → List ℕ → Type 0
Timed xs ps = (k : ℕ) → k < length xs → slice_index ps k ≡ period_of xs (item_at xs k)
