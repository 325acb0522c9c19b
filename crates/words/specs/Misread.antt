-- What is wrong with a word that is no number for what it should stand for.
use Rattle.std.specs.Prelude.{◌≡◌, ℕ, ◌+◌, List}
use Rattle.words.specs.Spoken.{Unreadable}
use Rattle.words.specs.declared.numbers.NoNumber.{NoNumber}

-- the word is found, at that quantity, and writes no number up to the largest
pub record WordWrong {Q : Type 0} (most : ℕ) (quantity : Q) (word : List ℕ) (e : NoNumber Q) : Type 0 where
  pub at : e.quantity ≡ quantity
  pub found : e.found.now ≡ word
  pub unreadable : Unreadable (most + 1) word
