-- What the lines so far said, and one line more.
use Rattle.std.proofs.Common.{◌≡◌, ℕ, ◌⊎◌, List, [], ◌∷◌, ◌++◌, length, Some, None, Option, sym, refl, ◌∙◌, subst, inl, inr, append_assoc, append-nil}
use Rattle.std.specs.Str.Lines as lines
use Rattle.service.specs.declared.Record.{Record}
use Rattle.words.specs.Spoken.{PassedOver}
use Rattle.listing.specs.Said.{BitLine, RowLine, Takes, Lines, Rows, Told, Says}

-- if the rest of the text says the rest, the text says all of it
abbrev pub Sofar : List ℕ → List ℕ → Option ℕ → List Record → Type 0
Sofar text rest None seen = (seen ≡ []) × ((ls : List (List ℕ)) (bit : ℕ) (rs : List Record) → Lines rest ls → Told ls bit rs → Says text bit rs)
Sofar text rest (Some b) seen = (ls : List (List ℕ)) (rs : List Record) → Lines rest ls → Rows ls rs → Says text b (seen ++ rs)

pub none_yet : (text rest : List ℕ) (seen : List Record) → rest ≡ text → seen ≡ [] → Sofar text rest None seen
none_yet text rest seen e none = (none, λ ls bit rs cut told. (ls, subst (λ t. Lines t ls) e cut, told))

module _ (text rest line next : List ℕ) (cut : lines.IsFirstLine rest line next) (bit : Option ℕ) (seen then : List Record) where
  before_bit : Sofar text rest None seen → (PassedOver line × (bit ≡ None)) ⊎ ((b : ℕ) × (bit ≡ Some b) × BitLine line b) → then ≡ seen → Sofar text next bit then
  before_bit old (inl p) same =
      subst (λ o. Sofar text next o then) (sym p.1) (same ∙ old.0, λ ls b rs more told. old.1 (line ∷ ls) b rs (next, cut, more) (inl (p.0, told)))
  before_bit old (inr p) same =
      subst (λ o. Sofar text next o then) (sym p.1)
      (λ ls rs more rows. subst (λ l. Says text p.0 (l ++ rs)) (sym (same ∙ old.0)) (old.1 (line ∷ ls) p.0 rs (next, cut, more) (inr (p.2, rows))))

  after_bit : (b : ℕ) → Sofar text rest (Some b) seen → bit ≡ Some b → (PassedOver line × (then ≡ seen)) ⊎ ((r : Record) × (then ≡ seen ++ r ∷ []) × RowLine line r) → Sofar text next bit then
  after_bit b old e (inl p) =
      subst (λ o. Sofar text next o then) (sym e) (λ ls rs more rows. subst (λ l. Says text b (l ++ rs)) (sym p.1) (old (line ∷ ls) rs (next, cut, more) (inl (p.0, rows))))
  after_bit b old e (inr p) =
      subst (λ o. Sofar text next o then) (sym e)
      (λ ls rs more rows.
      subst (λ l. Says text b (l ++ rs)) (sym p.1)
      (subst (Says text b) (sym (append_assoc seen (p.0 ∷ []) rs)) (old (line ∷ ls) (p.0 ∷ rs) (next, cut, more) (inr (p.0, rs, refl, p.2, rows)))))

pub one_more : (text rest line next : List ℕ) (old bit : Option ℕ) (seen then : List Record) → lines.IsFirstLine rest line next → Takes old seen line bit then → Sofar text rest old seen → Sofar text next bit then
one_more text rest line next None bit seen then cut takes sofar = before_bit text rest line next cut bit seen then sofar takes.0 takes.1
one_more text rest line next (Some b) bit seen then cut takes sofar = after_bit text rest line next cut bit seen then b sofar takes.0 takes.1

pub no_more : (text rest : List ℕ) (b : ℕ) (seen : List Record) → length rest ≡ 0 → Sofar text rest (Some b) seen → Says text b seen
no_more text rest b seen none sofar = subst (Says text b) (append-nil seen) (sofar [] [] none refl)
