-- What the words of a line are.
use Rattle.std.proofs.Common.{◌≡◌, ℕ, true, List, [], ◌∷◌, length, get_or, IfOk, Some, None, Ok, Err, Result, sym, ap, ◌∙◌, subst, Bor}
use Rattle.std.proofs.Math.ListN.{get_or-map}
use Rattle.std.specs.declared.str.SplitWhitespace.{SplitWhitespace}
use Rattle.std.specs.Iterator.{Yields}
use Rattle.std.specs.Str.Iter.{split_whitespace_rest, split_whitespace_steps}
use Rattle.std.specs.Iterator.Runs.{Run, YieldsRun, WholeRun}
use Rattle.std.specs.Char.{is_not_whitespace}
use Rattle.std.specs.Str.{NoCharPasses}
use Rattle.words.specs.Spoken.{Writes, First, Words, texts}

first_of : (s t : SplitWhitespace) (x : Bor (List ℕ)) → split_whitespace_steps s (Some x) t → First (split_whitespace_rest s) x.now (split_whitespace_rest t)
first_of s t x h = record { gap = h.0; cut = h.1; some = h.2; blank = h.3; solid = h.4; ends = h.5 }

words_yielded : (xs : List (Bor (List ℕ))) (s t u : SplitWhitespace) → Yields split_whitespace_steps s xs t → split_whitespace_steps t None u → Words (split_whitespace_rest s) (texts xs)
words_yielded [] s t u same end = subst (λ r. NoCharPasses is_not_whitespace (split_whitespace_rest r)) (sym same) end.1
words_yielded (x ∷ xs) s t u more end = (split_whitespace_rest more.0, first_of s more.0 x more.1, words_yielded xs more.0 t u more.2 end)

-- what a run of `split_whitespace` gave are the words
pub words_of_run : (p : Run split_whitespace_steps) → p.whole ≡ true → Words (split_whitespace_rest p.from) (texts p.items)
unfolding YieldsRun
words_of_run p whole = let took = p.gave.0 in let end = took.2 whole in words_yielded p.items p.from took.0 end.0 took.1 end.1

pub words_collected : {X E : Type 0} (items : X → List (Bor (List ℕ))) (size : X → ℕ) (line : List ℕ) (s : SplitWhitespace) (r : Result X E) → split_whitespace_rest s ≡ line → IfOk r (λ v. Unit {0} → WholeRun split_whitespace_steps s (λ p. (items v ≡ p.items) × (size v ≡ length p.items))) → IfOk r (λ v. Words line (texts (items v)))
words_collected items size line s (Err e) is h = tt
words_collected items size line s (Ok v) is h =
    let run = h tt in
    let all = words_of_run run.0 run.2 in
    subst (λ l. Words l (texts (items v))) (ap split_whitespace_rest run.1 ∙ is) (subst (λ xs. Words (split_whitespace_rest run.0.from) (texts xs)) (sym run.3.0) all)

-- what stands beyond the words
abbrev pub no_word : Bor (List ℕ)
no_word = record { ref_ptr = (0, 0); now = [] }

pub text_at : (ws : List (Bor (List ℕ))) (k : ℕ) → (get_or ws k no_word).now ≡ get_or (texts ws) k []
text_at ws k = sym (get_or-map (λ w. w.now) ws k no_word)

pub said_at : (ws : List (Bor (List ℕ))) (k n : ℕ) → Writes (get_or ws k no_word).now n → Writes (get_or (texts ws) k []) n
said_at ws k n h = subst (λ w. Writes w n) (text_at ws k) h
