-- A fault of a word that is handed on.
use Rattle.std.proofs.Common.{◌≡◌, ℕ, ◌+◌, ◌<◌, ◌≤◌, List, [], ◌∷◌, length, get_or, take, drop, IsErrAnd, Ok, Err, Result, sym, ap, ◌∙◌, subst, arith, Bor, MatchResult, length-drop, length-take-le}
use Rattle.std.proofs.lemmas.List.{length-map, get_or-take, get_or-drop}
use Rattle.words.specs.declared.numbers.NoNumber.{NoNumber}
use Rattle.words.specs.Misread.{WordWrong}
use Rattle.words.specs.Spoken.{Writes, texts}
use Rattle.words.proofs.Spoken.{no_word, text_at, said_at}
use Rattle.items.specs.declared.Work.{Work}
use Rattle.items.specs.declared.Work.TheVariants.{Task, Frame}
use Rattle.commands.specs.Limits.{most_of}
use Rattle.commands.specs.declared.fault.Field.{Field}
use Rattle.commands.specs.declared.fault.Form.{Form}
use Rattle.commands.specs.declared.fault.Wrong.{Wrong}
use Rattle.commands.specs.declared.fault.Wrong.TheVariants.{Command, Shape, Numeral, Memory}
use Rattle.script.specs.Fields.{Misread}
use Rattle.script.specs.Commands.{WorkWords, Amiss}

-- what the error of a callee says, of the result that hands it on
pub handed : {X : Type 0} (r : Result X Wrong) (P : X → Type 0) (Q : Wrong → Type 0) (e : Wrong) → IsErrAnd r (λ y. y ≡ e) → Q e → MatchResult r P Q
handed (Ok x) P Q e exit h = absurd exit
handed (Err y) P Q e exit h = subst Q (sym exit) h

amiss : (form : Form) (ws : List (List ℕ)) (e : Wrong) → Misread ws e → Amiss form ws e
amiss form ws (Command found) h = h
amiss form ws (Shape other) h = absurd h
amiss form ws (Numeral e) h = h
amiss form ws Memory h = tt

module _ (ws : List (Bor (List ℕ))) where
  -- a word at fault is one of the words
  misread_at : (k : ℕ) (field : Field) (e : NoNumber Field) → k < length ws → WordWrong (most_of field) field (get_or ws k no_word).now e → Misread (texts ws) (Numeral e)
  misread_at k field e lt h = (k, omega (arith, length-map ws (λ w. w.now), lt), subst (λ w. WordWrong (most_of e.quantity) e.quantity w e) (text_at ws k) (subst (λ q. WordWrong (most_of q) q (get_or ws k no_word).now e) (sym h.at) h))

  -- one that was looked up
  pub misread_got : (k : ℕ) (word : Bor (List ℕ)) (field : Field) (e : NoNumber Field) → k < length ws → word ≡ get_or ws k no_word → WordWrong (most_of field) field word.now e → Misread (texts ws) (Numeral e)
  misread_got k word field e lt got h = misread_at k field e lt (subst (λ w. WordWrong (most_of field) field w.now e) got h)

  -- one that is no number, handed on
  pub misread : {X : Type 0} (form : Form) (k : ℕ) (field : Field) (r : Result X Wrong) (P : X → Type 0) (e : NoNumber Field) → IsErrAnd r (λ y. y ≡ Numeral e) → k < length ws → WordWrong (most_of field) field (get_or ws k no_word).now e → MatchResult r P (Amiss form (texts ws))
  misread form k field r P e exit lt h = handed r P (Amiss form (texts ws)) (Numeral e) exit (misread_at k field e lt h)

  -- what a word writes, by another name of its place
  pub said_at_end : (i j n : ℕ) → i ≡ j → Writes (get_or ws i no_word).now n → Writes (get_or (texts ws) j []) n
  said_at_end i j n e h = subst (λ k. Writes (get_or (texts ws) k []) n) e (said_at ws i n h)

  module _ (m n : ℕ) (le : m + n ≤ length ws) where
    text_within : (k : ℕ) → k < n → get_or (texts (take n (drop m ws))) k [] ≡ get_or (texts ws) (m + k) []
    text_within k lt = sym (text_at (take n (drop m ws)) k) ∙ ap (λ w. w.now) (get_or-take n (drop m ws) k no_word lt ∙ get_or-drop m ws k no_word) ∙ text_at ws (m + k)

    count_within : length (take n (drop m ws)) ≡ n
    count_within = length-take-le n (drop m ws) (omega (arith, length-drop m ws))

    -- a fault of some of the words is one of all of them
    pub within : (form : Form) (e : Wrong) → Amiss form (texts (take n (drop m ws))) e → Amiss form (texts ws) e
    within form (Command found) h = h
    within form (Shape other) h = h
    within form Memory h = h
    within form (Numeral e) h =
        let inside : h.0 < n = omega (arith, h.1, count_within, length-map (take n (drop m ws)) (λ w. w.now)) in
        (m + h.0, omega (arith, inside, length-map ws (λ w. w.now)), subst (λ w. WordWrong (most_of e.quantity) e.quantity w e) (text_within h.0 inside) h.2)

    -- work that some of the words say
    pub work_within : (k end : ℕ) (work : Work) → m ≡ k + 1 → end ≡ m + n → WorkWords ((get_or ws k no_word).now ∷ texts (take n (drop m ws))) 0 (length (take n (drop m ws)) + 1) work → WorkWords (texts ws) k end work
    work_within k end (Task least greatest) next ends h = (
      omega (arith, h.0, count_within),
      sym (text_at ws k) ∙ h.1,
      subst (λ w. Writes w least) (text_within 0 (omega (arith, h.0, count_within)) ∙ ap (λ j. get_or (texts ws) j []) (omega arith)) h.2,
      subst (λ w. Writes w greatest) (text_within 1 (omega (arith, h.0, count_within)) ∙ ap (λ j. get_or (texts ws) j []) (omega arith)) h.3,
    )
    work_within k end (Frame bytes) next ends h = (
      omega (arith, h.0, count_within),
      sym (text_at ws k) ∙ h.1,
      subst (λ w. Writes w bytes) (text_within 0 (omega (arith, h.0, count_within)) ∙ ap (λ j. get_or (texts ws) j []) (omega arith)) h.2,
    )
