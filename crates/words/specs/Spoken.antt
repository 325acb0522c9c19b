-- What a word writes, and what the words of a line are.
use Rattle.std.specs.Prelude.{◌≡◌, ℕ, ◌<◌, ◌≤◌, ◌⊎◌, List, [], ◌∷◌, ◌++◌, map, length, ◌==◌, count_by, slice_index, slice_index_or}
use Rattle.std.specs.Borrow.{Bor}
use Rattle.std.specs.Str.Parse.{IsNumeral, digits_value}
use Rattle.std.specs.Char.{is_whitespace, is_not_whitespace}
use Rattle.std.specs.Str.{NoCharPasses, EmptyOrStartsWithPassing}

-- the word is one decimal digit or more and nothing else, and n is their value
pub record Writes (word : List ℕ) (n : ℕ) : Type 0 where
  pub numeral : IsNumeral 10 word
  pub is : n ≡ digits_value 10 word

-- the word writes the number, which is no larger than it may be
pub record Reads (most : ℕ) (word : List ℕ) (n : ℕ) : Type 0 where
  pub writes : Writes word n
  pub small : n ≤ most

-- no number below the bound is written by the word
abbrev pub Unreadable : ℕ → List ℕ → Type 0
Unreadable bound word = (n : ℕ) → n < bound → Writes word n → ⊥

-- the line is white space, the word and the rest, which is empty or begins with white space
pub record First (line word rest : List ℕ) : Type 0 where
  pub gap : List ℕ
  pub cut : line ≡ gap ++ (word ++ rest)
  pub some : 0 < length word
  pub blank : NoCharPasses is_not_whitespace gap
  pub solid : NoCharPasses is_whitespace word
  pub ends : (more : List ℕ) × EmptyOrStartsWithPassing is_whitespace rest more

-- the words of the line
abbrev pub Words : List ℕ → List (List ℕ) → Type 0
Words line [] = NoCharPasses is_not_whitespace line
Words line (w ∷ ws) = (rest : List ℕ) × First line w rest × Words rest ws

-- the bytes of each of the words
abbrev pub texts : List (Bor (List ℕ)) → List (List ℕ)
texts words = map (λ w. w.now) words

-- the line is a comment, or blank
abbrev pub PassedOver : List ℕ → Type 0
PassedOver line = (slice_index line 0 ≡ 35) ⊎ NoCharPasses is_not_whitespace line

-- the line has a word to be read
pub record Worded (line : List ℕ) : Type 0 where
  pub uncommented : slice_index_or line 0 0 ≡ 35 → ⊥
  pub word : List ℕ
  pub rest : List ℕ
  pub first : First line word rest

-- how many newlines stand among the bytes
abbrev pub newlines : List ℕ → ℕ
newlines bytes = count_by (λ b. b == 10) bytes
