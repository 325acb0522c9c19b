-- Numbers as bytes, and parts of a list of bytes.
use Rattle.std.proofs.Common.{◌≡◌, ℕ, zero, suc, ◌+◌, ◌-◌, ◌*◌, ◌/◌, ◌%◌, ◌^◌, ◌<◌, ◌≤◌, List, [], ◌∷◌, ◌++◌, length, take, drop, sym, refl, ap, ◌∙◌, subst, mod-eq_of_lt, mul_comm, div-lt_iff_lt-mul, zero-add, arith, lit<, length-drop, length-take-le, get_or-drop, get_or-take, take-take, drop-drop, take_at, take-add}
use native.Mathlib.Nat.{pow-succ', mod-add-div, add-mul-mod_self_left, add-mul-div_left, div-eq_of_lt}
use lib.Seq.{drop-append-add, drop-append-le, take-append-le}
use Rattle.std.proofs.lemmas.List.{drop-take}
use Rattle.layout.specs.Bytes.{laid, value, part, word}
use Rattle.layout.specs.Stands.{Bytes}

pub length_laid : (width n : ℕ) → length (laid width n) ≡ width
length_laid zero n = refl
length_laid (suc width) n = ap suc (length_laid width (n / 256))

-- a number is read back
pub value_laid : (width n : ℕ) → n < 256 ^ width → value (laid width n) ≡ n
value_laid zero n fits = omega arith
value_laid (suc width) n fits =
    let less : n < 256 ^ width * 256 = subst (λ m. n < m) (pow-succ' 256 width ∙ mul_comm 256 (256 ^ width)) fits in
    let fewer : n / 256 < 256 ^ width = (div-lt_iff_lt-mul {k = 256} {x = n} {y = 256 ^ width} (lit< tt)).1 less in
    ap (λ m. n % 256 + 256 * m) (value_laid width (n / 256) fewer) ∙ mod-add-div n 256

-- bytes are written back
pub laid_value : (bs : List ℕ) → Bytes bs → laid (length bs) (value bs) ≡ bs
laid_value [] small = refl
laid_value (b ∷ bs) small =
    let low : b < 256 = small 0 (omega arith) in
    let first : (b + 256 * value bs) % 256 ≡ b = add-mul-mod_self_left b 256 (value bs) ∙ mod-eq_of_lt low in
    let rest : (b + 256 * value bs) / 256 ≡ value bs = add-mul-div_left b (value bs) {y = 256} (lit< tt) ∙ ap (λ m. m + value bs) (div-eq_of_lt low) ∙ zero-add (value bs) in
    (λ i. first i ∷ laid (length bs) (rest i)) ∙ ap (λ l. b ∷ l) (laid_value bs (λ k h. small (suc k) (omega arith)))

module _ (bytes : List ℕ) where
  pub part_add : (at m n : ℕ) → part at (m + n) bytes ≡ part at m bytes ++ part (at + m) n bytes
  part_add at m n = take-add m n (drop at bytes) ∙ ap (λ l. part at m bytes ++ take n l) (drop-drop m at bytes)

  pub length_part : (at n : ℕ) → at + n ≤ length bytes → length (part at n bytes) ≡ n
  length_part at n within = length-take-le n (drop at bytes) (omega (arith, length-drop at bytes))

  pub part_part : (at m j n : ℕ) → j + n ≤ m → part j n (part at m bytes) ≡ part (at + j) n bytes
  part_part at m j n within =
      let width : j + (m - j) ≡ m = omega arith in
      let fewer : n ≤ m - j = omega arith in
      ap (λ k. take n (drop j (take k (drop at bytes)))) (sym width)
      ∙ ap (take n) (drop-take j (m - j) (drop at bytes) ∙ ap (take (m - j)) (drop-drop j at bytes))
      ∙ take-take n (m - j) (drop (at + j) bytes) fewer

  pub small_part : (at n : ℕ) → Bytes bytes → at + n ≤ length bytes → Bytes (part at n bytes)
  small_part at n small within k below =
      let lower : k < n = omega (arith, length_part at n within) in
      subst (λ m. m < 256) (sym (get_or-take n (drop at bytes) k 0 lower ∙ get_or-drop at bytes k 0)) (small (at + k) (omega arith))

  -- bytes at a place are the word that they write
  pub part_word : (at width : ℕ) → Bytes bytes → at + width ≤ length bytes → part at width bytes ≡ laid width (word width bytes at)
  part_word at width small within =
      let long = length_part at width within in
      sym (laid_value (part at width bytes) (small_part at width small within)) ∙ ap (λ n. laid n (word width bytes at)) long

  -- a word at a place where a number was written
  pub word_of : (at width n : ℕ) → n < 256 ^ width → part at width bytes ≡ laid width n → word width bytes at ≡ n
  word_of at width n fits is = ap value is ∙ value_laid width n fits

-- parts of a list that is put together
pub part_front : (n : ℕ) (xs ys : List ℕ) → length xs ≡ n → part 0 n (xs ++ ys) ≡ xs
part_front n xs ys long = take_at xs ys n long

pub part_behind : (n at m : ℕ) (xs ys : List ℕ) → length xs ≡ n → part (n + at) m (xs ++ ys) ≡ part at m ys
part_behind n at m xs ys long = ap (take m) (ap (λ k. drop (k + at) (xs ++ ys)) (sym long) ∙ drop-append-add xs ys at)

pub part_within : (at m : ℕ) (xs ys : List ℕ) → at + m ≤ length xs → part at m (xs ++ ys) ≡ part at m xs
part_within at m xs ys within =
    let room : at ≤ length xs = omega arith in
    let enough : m ≤ length (drop at xs) = omega (arith, length-drop at xs) in
    ap (take m) (drop-append-le at xs ys room) ∙ take-append-le m (drop at xs) ys enough
