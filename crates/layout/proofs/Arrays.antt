-- Arrays of records of one length, in a file and as they are written.
use Rattle.std.proofs.Common.{◌≡◌, ℕ, zero, suc, ◌+◌, ◌*◌, ◌/◌, ◌%◌, ◌<◌, List, [], ◌∷◌, ◌++◌, map, length, get_or, sym, refl, ap, ◌∙◌, add_assoc, add_comm, mul-zero, mul-one, mul-suc, mul-add, arith, length-append}
use native.Mathlib.Nat.{div-div-eq-div-mul}
use Rattle.std.specs.List.{flat_map, range_with_len}
use Rattle.layout.specs.Bytes.{laid, part}
use Rattle.layout.proofs.Bytes.{part_add, part_front, part_behind}

next_place : (s k : ℕ) → s * suc k ≡ s + s * k
next_place s k = mul-suc s k ∙ add_comm (s * k) s

module _ {X : Type 0} (f : X → List ℕ) (s : ℕ) (long : (x : X) → length (f x) ≡ s) where
  pub length_joined : (xs : List X) → length (flat_map f xs) ≡ s * length xs
  length_joined [] = sym (mul-zero s)
  length_joined (x ∷ xs) = length-append (f x) (flat_map f xs) ∙ (λ i. long x i + length_joined xs i) ∙ sym (next_place s (length xs))

  -- the record at a place
  pub part_joined : (xs : List X) (d : X) (k : ℕ) → k < length xs → part (s * k) s (flat_map f xs) ≡ f (get_or xs k d)
  part_joined [] d k below = absurd (omega arith)
  part_joined (x ∷ xs) d zero below = ap (λ at. part at s (f x ++ flat_map f xs)) (mul-zero s) ∙ part_front s (f x) (flat_map f xs) (long x)
  part_joined (x ∷ xs) d (suc k) below =
      ap (λ at. part at s (f x ++ flat_map f xs)) (next_place s k) ∙ part_behind s (s * k) s (f x) (flat_map f xs) (long x) ∙ part_joined xs d k (omega arith)

-- records that stand at their places make up an array
pub joined_parts : (bytes : List ℕ) (f : ℕ → List ℕ) (s at from many : ℕ) → ((k : ℕ) → k < from + many → part (at + s * k) s bytes ≡ f k) → part (at + s * from) (s * many) bytes ≡ flat_map f (range_with_len from many)
joined_parts bytes f s at from zero each = ap (λ n. part (at + s * from) n bytes) (mul-zero s)
joined_parts bytes f s at from (suc many) each =
    let further : at + s * from + s ≡ at + s * (from + 1) = add_assoc at (s * from) s ∙ ap (λ n. at + n) (sym (mul-add s from 1 ∙ ap (λ n. s * from + n) (mul-one s))) in
    ap (λ n. part (at + s * from) n bytes) (next_place s many)
    ∙ part_add bytes (at + s * from) s (s * many)
    ∙ (λ i. each from (omega arith) i ++ part (further i) (s * many) bytes)
    ∙ ap (λ l. f from ++ l) (joined_parts bytes f s at (from + 1) many (λ k below. each k (omega arith)))

-- an array of what is made of numbers
pub joined_map : {X Y : Type 0} (f : Y → List ℕ) (g : X → Y) (xs : List X) → flat_map f (map g xs) ≡ flat_map (λ x. f (g x)) xs
joined_map f g [] = refl
joined_map f g (x ∷ xs) = ap (λ l. f (g x) ++ l) (joined_map f g xs)

-- a number of 32 bits by its bytes
pub four_bytes : (r : List ℕ) (m n : ℕ) → r ≡ (n % 256 ∷ (n / 256 % 256 ∷ (n / 65536 % 256 ∷ (n / 16777216 % 256 ∷ [])))) → n ≡ m → get_or r 0 0 ∷ (get_or r 1 0 ∷ (get_or r 2 0 ∷ (get_or r 3 0 ∷ []))) ≡ laid 4 m
four_bytes r m n is same =
    let third : n / 65536 ≡ n / 256 / 256 = sym (div-div-eq-div-mul n 256 256) in
    let fourth : n / 16777216 ≡ n / 256 / 256 / 256 = sym (div-div-eq-div-mul (n / 256) 256 256 ∙ div-div-eq-div-mul n 256 65536) in
    ap (λ l. get_or l 0 0 ∷ (get_or l 1 0 ∷ (get_or l 2 0 ∷ (get_or l 3 0 ∷ [])))) is
    ∙ (λ i. n % 256 ∷ (n / 256 % 256 ∷ (third i % 256 ∷ (fourth i % 256 ∷ []))))
    ∙ ap (laid 4) same
