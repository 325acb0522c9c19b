-- The file of a plan, byte by byte.
use Rattle.std.specs.Prelude.{ℕ, ◌+◌, ◌*◌, List, ◌++◌, length}
use Rattle.std.specs.List.{flat_map}
use Rattle.items.specs.declared.Item.{Item}
use Rattle.items.specs.declared.Work.{Work}
use Rattle.items.specs.declared.Work.TheVariants.{Task, Frame}
use Rattle.layout.specs.Bytes.{laid}

-- the two words of an item's work: a task's demands, or a frame's data bytes and 0
abbrev pub first_word : Work → ℕ
first_word (Task least greatest) = least
first_word (Frame bytes) = bytes

abbrev pub second_word : Work → ℕ
second_word (Task least greatest) = greatest
second_word (Frame bytes) = 0

-- an item's record in the first array: four numbers of 16 bits
abbrev pub first_record : Item → List ℕ
first_record x = laid 2 x.number ++ (laid 2 x.resource ++ (laid 2 x.priority ++ laid 2 x.predecessor))

-- and in the second: four numbers of 32 bits
abbrev pub second_record : Item → List ℕ
second_record x = laid 4 (first_word x.work) ++ (laid 4 (second_word x.work) ++ (laid 4 x.period ++ laid 4 x.delay))

-- the two sizes, the bit times, the first array and the second
abbrev pub file_of : List ℕ → List Item → List ℕ
file_of bits xs = laid 2 (length bits) ++ (laid 2 (length xs) ++ (bits ++ (flat_map first_record xs ++ flat_map second_record xs)))

-- how many bytes that are
abbrev pub size_of : ℕ → ℕ → ℕ
size_of n m = 4 + n + 24 * m
