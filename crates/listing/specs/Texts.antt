-- What a line that is read, or refused, has in it.
use Rattle.std.specs.Prelude.{◌≡◌, ℕ, List, [], length, ◌≢◌, slice_index_or}
use Rattle.words.specs.Misread.{WordWrong}
use Rattle.listing.specs.declared.fault.Field.{Field}
use Rattle.listing.specs.declared.fault.Field.TheVariants.{Priority, Period, Jitter, Least, Greatest}
use Rattle.listing.specs.declared.fault.Wrong.{Wrong}
use Rattle.listing.specs.declared.fault.Wrong.TheVariants.{Encoding, BitTime, End, Count, Number, Memory}

-- where a field stands in a row
abbrev pub place : Field → ℕ
place Priority = 0
place Period = 1
place Jitter = 2
place Least = 3
place Greatest = 4

-- what is wrong with words that should be a row: there are not five, or one of them is no number
abbrev pub RowWrong : List (List ℕ) → Wrong → Type 0
RowWrong ws Encoding = ⊥
RowWrong ws (BitTime found) = ⊥
RowWrong ws End = ⊥
RowWrong ws (Count n) = (n ≡ length ws) × (length ws ≢ 5)
RowWrong ws (Number e) = (length ws ≡ 5) × WordWrong 4294967295 e.quantity (slice_index_or ws (place e.quantity) []) e
RowWrong ws Memory = ⊥
