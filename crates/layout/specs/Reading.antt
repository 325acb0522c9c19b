-- What a reader finds at the places of a file, and why it sends a file back.
use Rattle.std.specs.Prelude.{◌≡◌, ℕ, zero, suc, ◌+◌, ◌*◌, ◌<◌, ◌≤◌, Bool, true, false, cond, not, ◌&&◌, ◌||◌, List, [], map, length, take, is_some, Some, None, Ok, Err, Option, Result, ◌==◌, ◌≢◌, nat_le, nat_lt}
use Rattle.std.specs.List.{range_with_len}
use Rattle.items.specs.declared.Item.{Item}
use Rattle.items.specs.declared.Work.{Work}
use Rattle.items.specs.declared.Work.TheVariants.{Task, Frame}
use Rattle.items.specs.Conditions.{outside, some_above, bit_time_of, place_refusal}
use Rattle.items.specs.Journal.{State}
use Rattle.items.specs.Valid.{Valid}
use Rattle.layout.specs.declared.FileFault.{FileFault}
use Rattle.layout.specs.declared.FileFault.TheVariants.{Length, Sizes, BitTime, Record}
use Rattle.layout.specs.Bytes.{part, word}
use Rattle.layout.specs.Format.{file_of, size_of}

-- the two sizes
abbrev pub resources_in : List ℕ → ℕ
resources_in b = word 2 b 0

abbrev pub items_in : List ℕ → ℕ
items_in b = word 2 b 2

-- the bit times
abbrev pub bits_of : List ℕ → List ℕ
bits_of b = part 4 (resources_in b) b

-- where the records of an item begin in the two arrays
abbrev pub first_at : List ℕ → ℕ → ℕ
first_at b k = 4 + resources_in b + 8 * k

abbrev pub second_at : List ℕ → ℕ → ℕ
second_at b k = 4 + resources_in b + 8 * items_in b + 16 * k

-- the resource of the item at a place, and whether it is a bus
abbrev pub resource_in : List ℕ → ℕ → ℕ
resource_in b k = word 2 b (first_at b k + 2)

abbrev pub on_bus : List ℕ → ℕ → Bool
on_bus b k = not (bit_time_of (bits_of b) (resource_in b k) == 0)

-- the work that the two words say: a frame's on a bus, else a task's
abbrev pub work_by : Bool → ℕ → ℕ → Work
work_by true first second = Frame first
work_by false first second = Task first second

-- the item at a place
abbrev pub item_in : List ℕ → ℕ → Item
item_in b k = record {
  number = word 2 b (first_at b k);
  resource = resource_in b k;
  priority = word 2 b (first_at b k + 4);
  work = work_by (on_bus b k) (word 4 b (second_at b k)) (word 4 b (second_at b k + 4));
  predecessor = word 2 b (first_at b k + 6);
  period = word 4 b (second_at b k + 8);
  delay = word 4 b (second_at b k + 12);
}

-- all items, in their order
abbrev pub items_of : List ℕ → List Item
items_of b = map (item_in b) (range_with_len 0 (items_in b))

-- the fault of a file's sizes, length and bit times, the first in this order
abbrev pub head_fault : List ℕ → Option FileFault
head_fault b =
    cond (nat_lt (length b) 4) (Some Length)
    (cond (outside 1 16 (resources_in b) || nat_lt 256 (items_in b)) (Some Sizes)
    (cond (not (length b == size_of (resources_in b) (items_in b))) (Some Length)
    (cond (some_above 100 (bits_of b)) (Some BitTime) None)))

-- a file of so many resources and items, of just the length that these ask for
pub record Fitted (b : List ℕ) (resources items : ℕ) : Type 0 where
  pub first : resources ≡ resources_in b
  pub second : items ≡ items_in b
  pub low : 1 ≤ resources
  pub high : resources ≤ 16
  pub few : items ≤ 256
  pub whole : length b ≡ size_of resources items

-- the number of the item at a place is not above that of the one before it
abbrev pub descends : List ℕ → ℕ → Bool
descends b zero = false
descends b (suc k) = nat_le (item_in b (suc k)).number (item_in b k).number

-- a frame's second word is not 0
abbrev pub has_spare : List ℕ → ℕ → Bool
has_spare b k = on_bus b k && not (word 4 b (second_at b k + 4) == 0)

-- the record at a place is no next item: its number does not ascend, it is refused among the items before it, or it has a word too many
abbrev pub bad_record : List ℕ → ℕ → Bool
bad_record b k = descends b k || (is_some (place_refusal (bits_of b) (take k (items_of b)) (item_in b k)) || has_spare b k)

-- the first such
pub record FirstBad (b : List ℕ) (k : ℕ) : Type 0 where
  pub within : k < items_in b
  pub bad : bad_record b k ≡ true
  pub before : (j : ℕ) → j < k → bad_record b j ≡ false

-- the record at a place is taken as the next item, or sent back
abbrev pub Admitted : List ℕ → ℕ → State → Result (Unit {0}) FileFault → Type 0
Admitted b k s (Ok u) = (bad_record b k ≡ false) × (s.bits ≡ bits_of b) × (s.items ≡ take (k + 1) (items_of b))
Admitted b k s (Err fault) = (bad_record b k ≡ true) × (fault ≡ Record k)

-- why a file is sent back
abbrev pub IsSentBack : List ℕ → FileFault → Type 0
IsSentBack b (Record k) = (head_fault b ≡ None) × FirstBad b k
IsSentBack b Length = head_fault b ≡ Some Length
IsSentBack b Sizes = head_fault b ≡ Some Sizes
IsSentBack b BitTime = head_fault b ≡ Some BitTime

-- the state of a plan whose file the bytes are, and of no other plan
pub record ReadsAs (b : List ℕ) (s : State) : Type 0 where
  pub file : b ≡ file_of s.bits s.items
  pub only : (bits : List ℕ) (xs : List Item) → Valid bits xs → b ≡ file_of bits xs → (bits ≡ s.bits) × (xs ≡ s.items)
  pub journal : s.journal ≡ []

-- the bytes are the file of no plan
abbrev pub NoFile : List ℕ → Type 0
NoFile b = (bits : List ℕ) (xs : List Item) → Valid bits xs → b ≢ file_of bits xs
