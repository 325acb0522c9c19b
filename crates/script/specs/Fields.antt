-- What is wrong with a word that says nothing for a field.
use Rattle.std.specs.Prelude.{ℕ, ◌<◌, List, [], length, slice_index_or}
use Rattle.words.specs.Misread.{WordWrong}
use Rattle.commands.specs.Limits.{most_of}
use Rattle.commands.specs.declared.fault.Wrong.{Wrong}
use Rattle.commands.specs.declared.fault.Wrong.TheVariants as wrongs

-- one of the words is at fault, for some field
abbrev pub Misread : List (List ℕ) → Wrong → Type 0
Misread ws (wrongs.Command found) = ⊥
Misread ws (wrongs.Shape form) = ⊥
Misread ws (wrongs.Numeral e) = (k : ℕ) × (k < length ws) × WordWrong (most_of e.quantity) e.quantity (slice_index_or ws k []) e
Misread ws wrongs.Memory = ⊥
