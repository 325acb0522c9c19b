-- The front of a written table holds the windows of the items.
use Rattle.std.proofs.Common.{◌≡◌, ℕ, ◌+◌, ◌<◌, ◌≤◌, List, ◌++◌, length, take, sym, ap, ◌∙◌, subst, arith, length-append, length-take, get_or-take}
use Rattle.std.proofs.lemmas.List.{get_or_append_left}
use Rattle.service.specs.declared.Record.{Record}
use Rattle.service.specs.Traces.{Trace, Done}
use Rattle.items.specs.declared.Item.{Item}
use Rattle.items.specs.Items.{item_at}
use Rattle.tables.specs.Demands.{Span}
use Rattle.service.specs.Numbers.{Numbers}
use Rattle.tables.specs.Runs.{Kept}
use Rattle.tables.specs.Stands.{TrueWindows}
use Rattle.settle.specs.declared.WindowRow.{WindowRow}
use Rattle.settle.specs.Rows.{row_at, release_of, finish_of}
use Rattle.settle.specs.Settled.{Written}
use Rattle.visits.specs.Answers.{Tabled}

module _ (allows : ℕ → List Record → Trace → Type 0) (rule : Numbers) (bits : List ℕ) (xs : List Item) (ws : List Span) where
  -- what is true of windows is true of the same windows
  true_alike : (f g : ℕ → Span) → ((k : ℕ) → k < length xs → g k ≡ f k) → TrueWindows allows rule bits xs ws f → TrueWindows allows rule bits xs ws g
  true_alike f g same t = record {
    least = t.least;
    windows = record {
      opens = λ k h. ap (λ (s : Span). s.from) (same k h) ∙ t.windows.opens k h;
      closes = λ k w h e. ap (λ (s : Span). s.to) (same k h) ∙ t.windows.closes k w h e;
    };
    kept = λ run ok.
        let kept : Kept xs f run = t.kept run ok in
        record {
          not_early = λ k a e h fin. subst (λ (s : Span). a + s.from ≤ e) (sym (same k h)) (kept.not_early k a e h fin);
          not_late = λ k a h arr. subst (λ (s : Span). a + s.to ≤ run.ticks → Done run (item_at xs k).number a (a + s.to)) (sym (same k h)) (kept.not_late k a h arr);
        };
  }

  pub tabled : (old new rest rows : List WindowRow) → Written allows rule bits xs ws old new → length xs ≤ length old
      → rows ≡ take (length xs) (take (length old) (new ++ rest)) → Tabled allows rule bits xs ws rows
  tabled old new rest rows w room is = record {
    size = ap length is ∙ simp (length-take, length-append) (omega (arith, w.size));
    numbers = λ k h. ap (λ (r : WindowRow). r.number) (front k h) ∙ w.numbers k h;
    releases = λ k h. ap release_of (front k h) ∙ w.releases k h;
    finishes = true_alike (λ k. finish_of (row_at new k)) (λ k. finish_of (row_at rows k)) (λ k h. ap finish_of (front k h)) w.finishes;
  }
    where
      front : (k : ℕ) → k < length xs → row_at rows k ≡ row_at new k
      front k h =
          let in_old : k < length old = omega arith in
          let in_new : k < length new = omega (arith, w.size) in
          ap (λ l. row_at l k) is ∙ get_or-take _ _ _ _ h ∙ get_or-take _ _ _ _ in_old ∙ get_or_append_left _ _ _ _ in_new
