-- The bit times so far, and one more.
use Rattle.std.proofs.Common.{◌≡◌, ℕ, ◌+◌, ◌-◌, ◌<◌, List, [], ◌∷◌, ◌++◌, length, get_or, take, drop, sym, refl, ap, ◌∙◌, subst, arith, Bor, below_more}
use Rattle.std.proofs.lemmas.List.{take_rest, get_or-drop, get_or_append_left, get_or_push, length_push}
use Rattle.words.specs.Spoken.{Writes, texts}
use Rattle.words.proofs.Spoken.{no_word, said_at}
use Rattle.script.specs.Commands.{BitWords}

grown : (ws : List (List ℕ)) (bits : List ℕ) (k n : ℕ) → BitWords ws k bits → Writes (get_or ws k []) n → BitWords ws (k + 1) (bits ++ n ∷ [])
grown ws bits k n old new =
    let size = length_push bits n in
    let last = subst (λ j. Writes (get_or ws j []) n) old.count new in
    let all = below_more (λ j. Writes (get_or ws (j + 1) []) (get_or (bits ++ n ∷ []) j 0)) (length bits)
    (λ j lt. subst (Writes (get_or ws (j + 1) [])) (sym (get_or_append_left bits (n ∷ []) 0 j lt)) (old.each j lt))
    (subst (Writes (get_or ws (length bits + 1) [])) (sym (get_or_push bits n 0 (length bits) refl)) last) in
    record { count = omega (arith, size, old.count); each = λ j lt. all j (subst (λ m. j < m) size lt) }

pub bit_more : (ws : List (Bor (List ℕ))) (bits new : List ℕ) (k n : ℕ) → new ≡ bits ++ n ∷ [] → BitWords (texts ws) k bits → Writes (get_or ws k no_word).now n → BitWords (texts ws) (k + 1) new
bit_more ws bits new k n pushed old w = subst (BitWords (texts ws) (k + 1)) (sym pushed) (grown (texts ws) bits k n old (said_at ws k n w))

-- the words behind the first
pub behind_first : (ws : List (Bor (List ℕ))) (k : ℕ) → (get_or (take (length ws - 1) (drop 1 ws)) k no_word).now ≡ (get_or ws (k + 1) no_word).now
behind_first ws k = ap (λ w. w.now) (ap (λ l. get_or l k no_word) (take_rest ws 1) ∙ get_or-drop 1 ws k no_word ∙ ap (λ j. get_or ws j no_word) (omega arith))
