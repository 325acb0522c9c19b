-- Words read two digits at a time, texts written one byte at a time, and a text that is read back.
use Rattle.std.proofs.Common.{◌≡◌, ℕ, Bool, true, false, ◌^◌, ◌+◌, ◌-◌, ◌*◌, ◌/◌, ◌%◌, ◌<◌, ◌≤◌, List, [], ◌∷◌, ◌++◌, length, get_or, take, drop, Some, None, Ok, Option, sym, refl, ap, ◌∙◌, append_assoc, append-nil, arith}
use Rattle.std.specs.declared.fmt.Formatter.{Formatter}
use Rattle.std.specs.Option.{option_map}
use Rattle.std.specs.Char.{digit_value, digit_char}
use Rattle.std.specs.Bool.{then_some, ◌==◌}
use Rattle.std.specs.Fmt.{HasWritten, DisplaysOnOk, digits, digits_output, format_spec, styled_digits_output}
use Rattle.std.proofs.lemmas.Fmt.{hex_byte}
use Rattle.std.proofs.Output.{has_written_append, has_written_of_eq}
use Rattle.std.proofs.lemmas.List.{take_rest, take_more}
use Rattle.std.proofs.lemmas.Bool.{cond-true, and_from, lt-ltb}
use Rattle.std.proofs.lemmas.Str.{digit_value-digit_char}
use Rattle.hexadecimal.specs.Digits.{pair_byte, ahead, unhex, hex_text, Bytes}

-- what is left of a word after two digits
abbrev pub rest_of : List ℕ → List ℕ
rest_of digits = take (length digits - 2) (drop 2 digits)

unhex_two : (digits : List ℕ) → 2 ≤ length digits → unhex digits ≡ ahead (pair_byte (get_or digits 0 0) (get_or digits 1 0)) (unhex (rest_of digits))
unhex_two [] few = absurd (omega arith)
unhex_two (high ∷ []) few = absurd (omega arith)
unhex_two (high ∷ low ∷ rest) few = ap (λ r. ahead (pair_byte high low) (unhex r)) (sym (take_rest (high ∷ low ∷ rest) 2))

joined_ahead : (done : List ℕ) (b : ℕ) (o : Option (List ℕ)) → option_map (λ r. (done ++ b ∷ []) ++ r) o ≡ option_map (λ r. done ++ r) (ahead (Some b) o)
joined_ahead done b None = refl
joined_ahead done b (Some rest) = ap (λ r. Some r) (append_assoc done (b ∷ []) rest)

-- one byte more is read
pub read_more : (done new digits : List ℕ) (all : Option (List ℕ)) (b : ℕ) → 2 ≤ length digits → new ≡ done ++ b ∷ [] → Some b ≡ pair_byte (get_or digits 0 0) (get_or digits 1 0) → option_map (λ r. done ++ r) (unhex digits) ≡ all → option_map (λ r. new ++ r) (unhex (rest_of digits)) ≡ all
read_more done new digits all b two pushed byte old =
    ap (λ n. option_map (λ r. n ++ r) (unhex (rest_of digits))) pushed ∙
    joined_ahead done b (unhex (rest_of digits)) ∙
    ap (λ p. option_map (λ r. done ++ r) (ahead p (unhex (rest_of digits)))) byte ∙
    ap (option_map (λ r. done ++ r)) (sym (unhex_two digits two)) ∙ old

-- two that are no digits
pub read_none : (done digits : List ℕ) (all : Option (List ℕ)) → 2 ≤ length digits → None ≡ pair_byte (get_or digits 0 0) (get_or digits 1 0) → option_map (λ r. done ++ r) (unhex digits) ≡ all → None ≡ all
read_none done digits all two byte old =
    ap (λ p. option_map (λ r. done ++ r) (ahead p (unhex (rest_of digits)))) byte ∙
    ap (option_map (λ r. done ++ r)) (sym (unhex_two digits two)) ∙ old

-- no two digits are left: the word is read if none is
pub read_end : {V : Type 0} (items : V → List ℕ) (v : V) (digits : List ℕ) (b : Bool) (all : Option (List ℕ)) → b ≡ (length digits == 0) → length digits < 2 → option_map (λ r. items v ++ r) (unhex digits) ≡ all → option_map items (then_some b v) ≡ all
read_end items v [] b all e few old = rw e (ap (λ r. Some r) (sym (append-nil (items v))) ∙ old)
read_end items v (d ∷ []) b all e few old = rw e old
read_end items v (d ∷ e' ∷ digits) b all e few old = absurd (omega arith)

pair_back : (b : ℕ) → b < 256 → pair_byte (digit_char (b / 16)) (digit_char (b % 16)) ≡ Some b
pair_back b small =
    let high : digit_value (digit_char (b / 16)) ≡ b / 16 = digit_value-digit_char (b / 16) (omega arith) in
    let low : digit_value (digit_char (b % 16)) ≡ b % 16 = digit_value-digit_char (b % 16) (omega arith) in
    let high_in : digit_value (digit_char (b / 16)) < 16 = omega arith in
    let low_in : digit_value (digit_char (b % 16)) < 16 = omega arith in
    let whole : 16 * digit_value (digit_char (b / 16)) + digit_value (digit_char (b % 16)) ≡ b = omega arith in
    cond-true _ _ _ (and_from _ _ (lt-ltb _ 16 high_in) (lt-ltb _ 16 low_in)) ∙ ap (λ n. Some n) whole

-- what is written is read back
pub read_back : (bytes : List ℕ) → Bytes bytes → unhex (hex_text bytes) ≡ Some bytes
read_back [] h = refl
read_back (b ∷ bytes) h = ap (λ p. ahead p (unhex (hex_text bytes))) (pair_back b h.0) ∙ ap (ahead (Some b)) (read_back bytes h.1)

hex_append : (xs ys : List ℕ) → hex_text (xs ++ ys) ≡ hex_text xs ++ hex_text ys
hex_append [] ys = refl
hex_append (x ∷ xs) ys = ap (λ t. digit_char (x / 16) ∷ digit_char (x % 16) ∷ t) (hex_append xs ys)

-- how a byte is shown
styled_byte : (d : _) (s : _) (b : ℕ) → b < 256 → digits_output d ≡ Some (digits 16 false b) → s ≡ format_spec 32 0 4 2 (2 ^ 64 - 1) → styled_digits_output d s ≡ Some (digit_char (b / 16) ∷ digit_char (b % 16) ∷ [])
styled_byte d s b small w v = rw (v, w) (ap (λ t. Some t) (hex_byte false b small))

byte_more : (bytes : List ℕ) (i : ℕ) → i < length bytes → hex_text (take i bytes) ++ (digit_char (get_or bytes i 0 / 16) ∷ digit_char (get_or bytes i 0 % 16) ∷ []) ≡ hex_text (take (i + 1) bytes)
byte_more bytes i lt = sym (ap hex_text (take_more bytes i 0 lt) ∙ hex_append (take i bytes) (get_or bytes i 0 ∷ []))

-- one byte more is written
pub put_byte : {W : Type 0} (took : W → List ℕ → W → Type 0) (f g h : Formatter W) (d : _) (s : _) (bytes : List ℕ) (i : ℕ) → i < length bytes → get_or bytes i 0 < 256 → digits_output d ≡ Some (digits 16 false (get_or bytes i 0)) → s ≡ format_spec 32 0 4 2 (2 ^ 64 - 1) → HasWritten took f (hex_text (take i bytes)) g → DisplaysOnOk took g (Ok tt) (styled_digits_output d s) h → HasWritten took f (hex_text (take (i + 1) bytes)) h
put_byte took f g h d s bytes i lt small w v old new =
    let wrote = rw (styled_byte d s (get_or bytes i 0) small w v) at new in
    has_written_of_eq took f _ _ h (byte_more bytes i lt) (has_written_append took f _ g _ h old (wrote old.plain (refl {a = true})))
