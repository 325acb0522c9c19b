-- Numbers as bytes, the low byte first.
use Rattle.std.specs.Prelude.{ℕ, zero, suc, ◌+◌, ◌*◌, ◌/◌, ◌%◌, List, [], ◌∷◌, take, drop}

-- a number in so many bytes
abbrev pub laid : ℕ → ℕ → List ℕ
laid zero n = []
laid (suc width) n = n % 256 ∷ laid width (n / 256)

-- the number that bytes write
abbrev pub value : List ℕ → ℕ
value [] = 0
value (b ∷ bs) = b + 256 * value bs

-- so many bytes from a place on
abbrev pub part : ℕ → ℕ → List ℕ → List ℕ
part at width bytes = take width (drop at bytes)

-- the number that they write
abbrev pub word : ℕ → List ℕ → ℕ → ℕ
word width bytes at = value (part at width bytes)
