-- What the words and the lines of a text say.
use Rattle.std.specs.Prelude.{◌≡◌, ℕ, ◌⊎◌, List, [], ◌∷◌, ◌++◌, length, Some, None, Option, slice_index_or}
use Rattle.std.specs.Str.Lines as lines
use Rattle.std.specs.Char.{is_not_whitespace}
use Rattle.std.specs.Str.{NoCharPasses, EmptyOrStartsWithPassing, EmptyOrEndsWithPassing}
use Rattle.service.specs.declared.Record.{Record}
use Rattle.words.specs.Spoken.{Writes, Words, PassedOver}

-- the word is what is left of the line without the white space at its ends
pub record Trims (line word : List ℕ) : Type 0 where
  pub before : List ℕ
  pub after : List ℕ
  pub cut : line ≡ before ++ (word ++ after)
  pub blank_before : NoCharPasses is_not_whitespace before
  pub blank_after : NoCharPasses is_not_whitespace after
  pub first : (rest : List ℕ) × EmptyOrStartsWithPassing is_not_whitespace word rest
  pub last : EmptyOrEndsWithPassing is_not_whitespace word

-- five words write the numbers of the record
pub record RowWords (ws : List (List ℕ)) (r : Record) : Type 0 where
  pub five : length ws ≡ 5
  pub priority : Writes (slice_index_or ws 0 []) r.priority
  pub period : Writes (slice_index_or ws 1 []) r.period
  pub jitter : Writes (slice_index_or ws 2 []) r.jitter
  pub least : Writes (slice_index_or ws 3 []) r.least
  pub greatest : Writes (slice_index_or ws 4 []) r.greatest

-- the line says the bit time
abbrev pub BitLine : List ℕ → ℕ → Type 0
BitLine line bit = (word : List ℕ) × Trims line word × Writes word bit

-- the line says the row
abbrev pub RowLine : List ℕ → Record → Type 0
RowLine line r = (ws : List (List ℕ)) × Words line ws × RowWords ws r

-- what is known after a line from what was known before it: the first line to be read says the bit time, each later one a row
abbrev pub Takes : Option ℕ → List Record → List ℕ → Option ℕ → List Record → Type 0
Takes None rs line bit ss = ((PassedOver line × (bit ≡ None)) ⊎ ((b : ℕ) × (bit ≡ Some b) × BitLine line b)) × (ss ≡ rs)
Takes (Some b) rs line bit ss = (bit ≡ Some b) × ((PassedOver line × (ss ≡ rs)) ⊎ ((r : Record) × (ss ≡ rs ++ r ∷ []) × RowLine line r))

-- the lines of a text
abbrev pub Lines : List ℕ → List (List ℕ) → Type 0
Lines text [] = length text ≡ 0
Lines text (l ∷ ls) = (rest : List ℕ) × lines.IsFirstLine text l rest × Lines rest ls

-- lines that say these rows, in order
abbrev pub Rows : List (List ℕ) → List Record → Type 0
Rows [] rs = rs ≡ []
Rows (l ∷ ls) rs = (PassedOver l × Rows ls rs) ⊎ ((r : Record) × (ss : List Record) × (rs ≡ r ∷ ss) × RowLine l r × Rows ls ss)

-- lines that say a bit time, and then these rows
abbrev pub Told : List (List ℕ) → ℕ → List Record → Type 0
Told [] bit rs = ⊥
Told (l ∷ ls) bit rs = (PassedOver l × Told ls bit rs) ⊎ (BitLine l bit × Rows ls rs)

-- the text says the bit time and the rows
abbrev pub Says : List ℕ → ℕ → List Record → Type 0
Says text bit rs = (ls : List (List ℕ)) × Lines text ls × Told ls bit rs
