-- The table in the front of an array.
use Rattle.std.proofs.Common.{◌≡◌, ℕ, ◌<◌, ◌≤◌, Bool, ◌&&◌, eqb, List, length, take, get_or, replicate, sym, ap, ◌∙◌, arith, length-take-le, get_or-take, ext_get_or}
use lib.ListN.{length-map}
use Rattle.std.proofs.lemmas.List.{get_or-map, take-map, take-replicate}
use Rattle.std.specs.Bool.{Decides}
use Rattle.std.specs.Cmp.Lexicographic.{pointwise}
use Rattle.std.specs.Cmp.Derive.Mapped.{pointwise-map}
use Rattle.std.proofs.lemmas.Bool.Decides.{Decides-eqb, Decides-and, Decides-like}
use Rattle.std.proofs.lemmas.Slice.Eq.{slice_eq-Decides}
use Rattle.tables.specs.Demands.{Span, nowhere, span}
use Rattle.consult.specs.declared.window.Window.{Window}
use Rattle.consult.specs.Windows.{span_of, spans_of, front}

pub span_read : (ws : List Window) (k : ℕ) (d : Window) → k < length ws → span (spans_of ws) k ≡ span_of (get_or ws k d)
span_read ws k d h = get_or-map span_of ws k d nowhere h

module _ (ws : List Window) (n : ℕ) where
  pub front_length : n ≤ length ws → length (front n ws) ≡ n
  front_length room = length-map (take n ws) span_of ∙ length-take-le n ws room

  pub front_at : (k : ℕ) → k < n → span (front n ws) k ≡ span (spans_of ws) k
  front_at k h = rw (← take-map span_of n ws) (get_or-take n (spans_of ws) k nowhere h)

  pub front_read : (k : ℕ) (d : Window) → n ≤ length ws → k < n → span (front n ws) k ≡ span_of (get_or ws k d)
  front_read k d room h = front_at k h ∙ span_read ws k d (omega arith)

  pub front_is : n ≤ length ws → (vs : List Span) → length vs ≡ n → ((k : ℕ) → k < n → span (spans_of ws) k ≡ span vs k) → front n ws ≡ vs
  front_is room vs size same =
      let long = front_length room in
      ext_get_or nowhere (front n ws) vs (long ∙ sym size) (λ k h. front_at k (omega arith) ∙ same k (omega arith))

  pub front_empty : spans_of ws ≡ replicate 256 nowhere → n ≤ 256 → front n ws ≡ replicate n nowhere
  front_empty empty few = sym (take-map span_of n ws) ∙ ap (take n) empty ∙ take-replicate n 256 nowhere few

same_span : Span → Span → Bool
same_span s t = eqb s.from t.from && eqb s.to t.to

same_span-Decides : (s t : Span) → Decides (same_span s t) (s ≡ t)
unfolding same_span
same_span-Decides s t =
    Decides-like _ (λ e i. record { from = e.0 i; to = e.1 i }) (λ e. (ap (λ (w : Span). w.from) e, ap (λ (w : Span). w.to) e))
    (Decides-and _ _ (Decides-eqb s.from t.from) (Decides-eqb s.to t.to))

-- whether two lists of windows are the same says whether their tables are
pub same_spans : (ws vs : List Window) (r : Bool) → r ≡ pointwise (λ (w v : Window). eqb w.«open» v.«open» && eqb w.close v.close) ws vs → Decides r (spans_of ws ≡ spans_of vs)
unfolding same_span
same_spans ws vs r e = slice_eq-Decides same_span-Decides (spans_of ws) (spans_of vs) r (e ∙ sym (pointwise-map span_of same_span ws vs))
