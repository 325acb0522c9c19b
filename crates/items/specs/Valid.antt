-- What no plan can lack, of its bit times and its items.
use Rattle.std.specs.Prelude.{◌≡◌, ℕ, ◌<◌, ◌≤◌, true, List, length, take, ◌≢◌, slice_index}
use Rattle.items.specs.declared.Item.{Item}
use Rattle.items.specs.declared.Work.{Work}
use Rattle.items.specs.declared.Work.TheVariants.{Task, Frame}
use Rattle.items.specs.Items.{item_at}
use Rattle.items.specs.Conditions.{bit_time_of, stands}

-- tasks belong on processors and frames on buses
abbrev pub ValidWork : ℕ → Work → Type 0
ValidWork bit (Task low high) = (bit ≡ 0) × (1 ≤ low) × (low ≤ high) × (high ≤ 10000000)
ValidWork bit (Frame bytes) = (1 ≤ bit) × (bytes ≤ 8)

-- what an item has by itself
pub record ValidItem (bits : List ℕ) (x : Item) : Type 0 where
  pub number_low : 1 ≤ x.number
  pub number_high : x.number ≤ 999
  pub resource_low : 1 ≤ x.resource
  pub resource_high : x.resource ≤ length bits
  pub priority_high : x.priority ≤ 2047
  pub work : ValidWork (bit_time_of bits x.resource) x.work
  -- a head has a period and may have a delay, any other item has neither
  pub head : x.predecessor ≡ 0 → (1 ≤ x.period) × (x.period ≤ 10000000) × (x.delay ≤ 10000000)
  pub other : (x.predecessor ≢ 0) → (x.period ≡ 0) × (x.delay ≡ 0)

-- what a plan has: in its bit times, in each item, and between its items
pub record Valid (bits : List ℕ) (xs : List Item) : Type 0 where
  pub resources_low : 1 ≤ length bits
  pub resources_high : length bits ≤ 16
  pub bit_times : (i : ℕ) → i < length bits → slice_index bits i ≤ 100
  pub size : length xs ≤ 256
  pub each : (k : ℕ) → k < length xs → ValidItem bits (item_at xs k)
  pub ascending : (j k : ℕ) → j < k → k < length xs → (item_at xs j).number < (item_at xs k).number
  -- no priority stands twice on a resource
  pub apart : (j k : ℕ) → j < length xs → k < length xs → (item_at xs j).resource ≡ (item_at xs k).resource → (item_at xs j).priority ≡ (item_at xs k).priority → j ≡ k
  -- a predecessor stands earlier in the list
  pub linked : (k : ℕ) → k < length xs → ((item_at xs k).predecessor ≢ 0) → stands (item_at xs k).predecessor (take k xs) ≡ true
