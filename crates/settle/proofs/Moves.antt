-- The sweeps one by one, and their ends.
use Rattle.std.proofs.Common.{◌≡◌, ℕ, ◌+◌, ◌<◌, Bool, true, false, List, length, Ok, sym, refl, ap, ◌∙◌, subst, add-one, arith, below_more}
use Rattle.std.proofs.lemmas.Bool.{false≢true}
use Rattle.service.specs.declared.Record.{Record}
use Rattle.service.specs.declared.Response.{Response}
use Rattle.service.specs.Traces.{Trace}
use Rattle.service.specs.Numbers.{Numbers}
use Rattle.service.specs.Laws.{LawfulRule}
use Rattle.items.specs.declared.Item.{Item}
use Rattle.items.specs.Items.{item_at}
use Rattle.items.specs.Valid.{Valid}
use Rattle.tables.specs.Demands.{Span, span}
use Rattle.tables.specs.Tables.{AllBounded, first_table, swept, table}
use Rattle.tables.specs.Stands.{Settles}
use Rattle.tables.proofs.Settling.{settling}
use Rattle.settle.specs.Passes.{Narrow}
use Rattle.settle.specs.Settled.{Lowest, Still, Failing}
use Rattle.settle.specs.Sweeps.{Made, Swept}

module _ (rule : Numbers) (bits : List ℕ) (xs : List Item) where
  pub made_none : (ws : List Span) → ws ≡ first_table rule bits xs → Made rule bits xs 0 ws
  made_none ws is = record { moving = record { bounded = λ m h. absurd (omega arith); altered = λ m h. absurd (omega arith) }; is = is }

  pub made_at : (n m : ℕ) (ws : List Span) → n ≡ m → Made rule bits xs n ws → Made rule bits xs m ws
  made_at n m ws e = subst (λ (l : ℕ). Made rule bits xs l ws) e

  -- a sweep that altered a window
  pub made_by : (n m : ℕ) (ws : List Span) (answers : List Response) (altered : Bool) → n ≡ m → altered ≡ true → Swept rule bits xs n ws answers (Ok altered) → Made rule bits xs m ws
  made_by n m ws answers false e is swept = absurd (false≢true is)
  made_by n m ws answers true e is swept = made_at n m ws e swept

  module _ (n : ℕ) (ws : List Span) (made : Made rule bits xs n ws) where
    bounded_here : AllBounded rule bits xs ws → AllBounded rule bits xs (table rule bits xs n)
    bounded_here = subst (AllBounded rule bits xs) made.is

    next_table : swept rule bits xs ws ≡ table rule bits xs (n + 1)
    next_table = ap (swept rule bits xs) made.is ∙ ap (table rule bits xs) (sym (add-one n))

    pub made_more : AllBounded rule bits xs ws → (vs : List Span) → vs ≡ swept rule bits xs ws → (ws ≡ vs → ⊥) → Made rule bits xs (n + 1) vs
    made_more all vs is differs = record {
      moving = record {
        bounded = below_more _ _ made.moving.bounded (bounded_here all);
        altered = below_more _ _ made.moving.altered (λ same. differs (made.is ∙ sym same ∙ sym next_table ∙ sym is));
      };
      is = is ∙ next_table;
    }

    pub still_here : AllBounded rule bits xs ws → swept rule bits xs ws ≡ ws → Still rule bits xs n
    still_here all same = record { before = made.moving; bounded = bounded_here all; same = sym next_table ∙ same ∙ made.is }

    module _ (allows : ℕ → List Record → Trace → Type 0) (laws : LawfulRule allows rule) (valid : Valid bits xs) where
      settles : Settles allows rule bits xs
      settles = settling allows rule laws bits xs valid

      pub narrow_next : AllBounded rule bits xs ws → (k : ℕ) → k < length xs → Narrow (span (swept rule bits xs ws) k)
      narrow_next all k h =
          let range = settles.in_range (n + 1) (below_more _ _ made.moving.bounded (bounded_here all)) k h in
          let few = valid.size in
          let e = ap (λ (vs : List Span). span vs k) next_table in
          subst Narrow (sym e) (record { ordered = range.ordered; near = omega (arith, range.ordered, range.jitter); high = omega (arith, range.high) })

      pub failing_here : (at : ℕ) → Lowest rule bits xs ws at → Failing rule bits xs n (item_at xs at).number (item_at xs at).resource
      failing_here at low =
          let lowest : Lowest rule bits xs (table rule bits xs n) at = subst (λ (vs : List Span). Lowest rule bits xs vs at) made.is low in
          record { before = made.moving; at = at; lowest = lowest; item = refl; on = refl; hopeless = settles.none n at lowest.within lowest.none }
