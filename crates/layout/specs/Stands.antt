-- A plan and its file.
use Rattle.std.specs.Prelude.{◌≡◌, ℕ, ◌<◌, false, List, length, None, slice_index}
use Rattle.items.specs.declared.Item.{Item}
use Rattle.items.specs.Valid.{Valid}
use Rattle.layout.specs.declared.FileFault.{FileFault}
use Rattle.layout.specs.Format.{file_of}
use Rattle.layout.specs.Reading.{items_in, bits_of, items_of, head_fault, bad_record, IsSentBack, NoFile}

-- every number of a list is a byte
abbrev pub Bytes : List ℕ → Type 0
Bytes b = (k : ℕ) → k < length b → slice_index b k < 256

pub record FilesStand : Type 0 where
  -- two plans with one file are one plan
  pub one_plan : (bits cits : List ℕ) (xs ys : List Item) → Valid bits xs → Valid cits ys → file_of bits xs ≡ file_of cits ys → (bits ≡ cits) × (xs ≡ ys)
  -- in the file of a plan nothing is wrong, and the reader finds just the plan
  pub good : (bits : List ℕ) (xs : List Item) → Valid bits xs → (head_fault (file_of bits xs) ≡ None) × ((k : ℕ) → k < items_in (file_of bits xs) → bad_record (file_of bits xs) k ≡ false)
  pub found : (bits : List ℕ) (xs : List Item) → Valid bits xs → (bits_of (file_of bits xs) ≡ bits) × (items_of (file_of bits xs) ≡ xs)
  -- bytes in which nothing is wrong are the file of what the reader finds
  pub whole : (b : List ℕ) → Bytes b → head_fault b ≡ None → ((k : ℕ) → k < items_in b → bad_record b k ≡ false) → b ≡ file_of (bits_of b) (items_of b)
  -- and what is sent back is the file of no plan
  pub no_plan : (b : List ℕ) (fault : FileFault) → IsSentBack b fault → NoFile b
