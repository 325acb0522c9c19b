-- Bytes written as hexadecimal digits, and read from them.
use Rattle.std.specs.Prelude.{ℕ, ◌+◌, ◌*◌, ◌/◌, ◌%◌, ◌<◌, cond, ◌&&◌, List, [], ◌∷◌, Some, None, Option, nat_lt}
use Rattle.std.specs.Char.{digit_value, digit_char}

-- the byte that two digits write, the high one first
abbrev pub pair_byte : ℕ → ℕ → Option ℕ
pair_byte high low = cond (nat_lt (digit_value high) 16 && nat_lt (digit_value low) 16) (Some (16 * digit_value high + digit_value low)) None

-- a byte before others, if there are both
abbrev pub ahead : Option ℕ → Option (List ℕ) → Option (List ℕ)
ahead None bytes = None
ahead (Some b) None = None
ahead (Some b) (Some bytes) = Some (b ∷ bytes)

-- the bytes that a word writes, if it is digits of either case and their number is even
abbrev pub unhex : List ℕ → Option (List ℕ)
unhex [] = Some []
unhex (high ∷ []) = None
unhex (high ∷ low ∷ rest) = ahead (pair_byte high low) (unhex rest)

-- two lower-case digits for each byte, the high one first
abbrev pub hex_text : List ℕ → List ℕ
hex_text [] = []
hex_text (b ∷ bytes) = digit_char (b / 16) ∷ digit_char (b % 16) ∷ hex_text bytes

-- each number is a byte
abbrev pub Bytes : List ℕ → Type 0
Bytes [] = Unit {0}
Bytes (b ∷ bytes) = (b < 256) × Bytes bytes
