-- What the sweeps come to: every table is below every steady one.
use Rattle.std.proofs.Common.{◌≡◌, ℕ, zero, suc, ◌+◌, ◌-◌, ◌<◌, ◌≤◌, false, cond, eqb, List, length, Some, sym, refl, ap, ◌∙◌, ⊎_elim, not-suc-le-zero, arith, ext_get_or}
use lib.ListN.{length-replicate, get_or-replicate}
use Rattle.std.proofs.lemmas.Bool.{eq-eqb, ne_eqb}
use Rattle.std.proofs.lemmas.List.FromFn.{length-map-range_with_len, get_or-map-range_with_len}
use Rattle.service.specs.declared.Record.{Record}
use Rattle.service.specs.Traces.{Trace}
use Rattle.items.specs.declared.Item.{Item}
use Rattle.items.specs.Items.{item_at}
use Rattle.items.specs.Conditions.{bit_time_of}
use Rattle.items.specs.Valid.{Valid}
use Rattle.tables.specs.Demands.{Span, nowhere, span, place_on, place_of}
use Rattle.service.specs.Numbers.{Numbers}
use Rattle.tables.specs.Tables.{least_at, worst_at, AllBounded, table_by, blank, lead_within, lead, first_window, next_window, swept, table, Steady, Below}
use Rattle.service.specs.Laws.{LawfulRule}
use Rattle.tables.proofs.Chains.{Link, head_or_link, no_head, link_from, place_found}
use Rattle.tables.proofs.Rowed.{rows, rows_tighter, rows_looser, rows_good, place_below}
use Rattle.tables.proofs.Sound.{opens}

module _ (rule : Numbers) (bits : List ℕ) (xs : List Item) where
  pub by_length : (f : ℕ → ℕ → Span) → length (table_by rule bits xs f) ≡ length xs
  by_length f = length-map-range_with_len _ 0 (length xs)

  by_at : (f : ℕ → ℕ → Span) (k : ℕ) → k < length xs → span (table_by rule bits xs f) k ≡ cond (eqb (item_at xs k).predecessor 0) (record { from = 0; to = (item_at xs k).delay }) (f k (place_of (item_at xs k).predecessor xs))
  by_at f k h = get_or-map-range_with_len _ 0 (length xs) k k nowhere h (omega arith)

  pub by_head : (f : ℕ → ℕ → Span) (k : ℕ) → k < length xs → (item_at xs k).predecessor ≡ 0 → span (table_by rule bits xs f) k ≡ record { from = 0; to = (item_at xs k).delay }
  by_head f k h z = by_at f k h ∙ rw (eq-eqb (item_at xs k).predecessor 0 z)

  pub table_length : (n : ℕ) → length (table rule bits xs n) ≡ length xs
  table_length zero = by_length (first_window rule bits xs)
  table_length (suc n) = by_length (next_window rule bits xs (table rule bits xs n))

  module _ (valid : Valid bits xs) where
    link_place : (k : ℕ) (l : Link xs k) → place_of (item_at xs k).predecessor xs ≡ l.at
    link_place k l = ap (λ (n : ℕ). place_of n xs) l.is ∙ place_found xs valid.ascending l.at l.below

    link_test : (k : ℕ) (l : Link xs k) → eqb (item_at xs k).predecessor 0 ≡ false
    link_test k l = ne_eqb _ _ (no_head bits xs valid l.at k l.below l.is)

    pub by_link : (f : ℕ → ℕ → Span) (k : ℕ) → k < length xs → (l : Link xs k) → span (table_by rule bits xs f) k ≡ f k l.at
    by_link f k h l = by_at f k h ∙ rw (link_test k l) (ap (f k) (link_place k l))

    pub lead_head : (n k : ℕ) → (item_at xs k).predecessor ≡ 0 → lead_within rule bits xs (suc n) k ≡ 0
    lead_head n k z = rw (eq-eqb (item_at xs k).predecessor 0 z)

    pub lead_link : (n k : ℕ) (l : Link xs k) → lead_within rule bits xs (suc n) k ≡ lead_within rule bits xs n l.at + least_at rule bits xs (blank rule bits xs) l.at
    lead_link n k l = rw (link_test k l, link_place k l)

    -- the lead of a head is none, however far its chain is followed
    pub lead_none : (n k : ℕ) → (item_at xs k).predecessor ≡ 0 → lead_within rule bits xs n k ≡ 0
    lead_none zero k z = refl
    lead_none (suc n) k z = lead_head n k z

    -- a chain that is followed beyond its head has the same lead
    lead_fuel : (n m k : ℕ) → k < n → k < m → k < length xs → lead_within rule bits xs n k ≡ lead_within rule bits xs m k
    lead_fuel zero m k ln lm h = absurd (not-suc-le-zero ln)
    lead_fuel (suc n) zero k ln lm h = absurd (not-suc-le-zero lm)
    lead_fuel (suc n) (suc m) k ln lm h =
        ⊎_elim
        (λ z. lead_head n k z ∙ sym (lead_head m k z))
        (λ l.
        let same = lead_fuel n m l.at (omega (arith, l.earlier)) (omega (arith, l.earlier)) l.below in
        let left = lead_link n k l in
        let right = lead_link m k l in
        omega arith)
        (head_or_link bits xs valid k h)

    -- the lead of a follower is its predecessor's, and that one's least response
    pub lead_next : (n k : ℕ) → k < n → k < length xs → (l : Link xs k) → lead_within rule bits xs n k ≡ lead rule bits xs l.at + least_at rule bits xs (blank rule bits xs) l.at
    lead_next zero k lt h l = absurd (not-suc-le-zero lt)
    lead_next (suc n) k lt h l =
        let step = lead_link n k l in
        let same = lead_fuel n (length xs) l.at (omega (arith, l.earlier)) l.below l.below in
        omega arith

    -- a table that a sweep leaves as it is, with a worst for every item, is steady
    pub steady_since : (ws : List Span) → AllBounded rule bits xs ws → swept rule bits xs ws ≡ ws → Steady rule bits xs ws
    steady_since ws all same = record {
      size = ap length (sym same) ∙ by_length (next_window rule bits xs ws);
      bounded = all;
      heads = λ k h z.
          let e : record { from = 0; to = (item_at xs k).delay } ≡ span ws k = sym (by_head (next_window rule bits xs ws) k h z) ∙ ap (λ (us : List Span). span us k) same in
          (sym (ap (λ (v : Span). v.from) e), sym (ap (λ (v : Span). v.to) e));
      links = λ j k w hj h is worst.
          let l = link_from bits xs valid j k hj h is in
          let e : next_window rule bits xs ws k j ≡ span ws k = sym (by_link (next_window rule bits xs ws) k h l) ∙ ap (λ (us : List Span). span us k) same in
          (sym (ap (λ (v : Span). v.from) e), sym (ap (λ (v : Span). v.to) e) ∙ rw worst);
    }

    -- and the other way round
    pub unaltered : (ws : List Span) → Steady rule bits xs ws → swept rule bits xs ws ≡ ws
    unaltered ws steady =
        ext_get_or nowhere (swept rule bits xs ws) ws (by_length (next_window rule bits xs ws) ∙ sym steady.size)
        (λ k h. let long = by_length (next_window rule bits xs ws) in same k (omega arith))
      where
        same : (k : ℕ) → k < length xs → span (swept rule bits xs ws) k ≡ span ws k
        same k h =
            ⊎_elim
            (λ z. let e = steady.heads k h z in by_head (next_window rule bits xs ws) k h z ∙ sym (λ i. record { from = e.0 i; to = e.1 i }))
            (λ l.
            let w = steady.bounded l.at l.below in
            let e = steady.links l.at k w.0 l.below h l.is w.1 in
            by_link (next_window rule bits xs ws) k h l ∙ rw w.1 (sym (λ i. record { from = e.0 i; to = e.1 i })))
            (head_or_link bits xs valid k h)

    -- beside a steady table
    module _ (allows : ℕ → List Record → Trace → Type 0) (laws : LawfulRule allows rule) (vs : List Span) (steady : Steady rule bits xs vs) where
      -- a table with no longer windows has the same leasts, and worsts that are no larger
      answers : (ws : List Span) → length ws ≡ length xs → ((k : ℕ) → k < length xs → (span ws k).to - (span ws k).from ≤ (span vs k).to - (span vs k).from) → (k : ℕ) → k < length xs
          → (least_at rule bits xs ws k ≡ least_at rule bits xs vs k) × ((w : ℕ) → worst_at rule bits xs vs k ≡ Some w → (v : ℕ) × ((worst_at rule bits xs ws k ≡ Some v) × (v ≤ w)))
      answers ws size less k h =
          let r = (item_at xs k).resource in
          let good = rows_good bits xs vs steady.size rule (λ bit. (laws bit).unfit) valid steady.bounded r in
          let tight = rows_looser bits xs ws vs size steady.size less r in
          (laws (bit_time_of bits r)).rising (rows bits xs ws r) (rows bits xs vs r) (rows_tighter _ _ tight good) good tight (place_on xs k) (place_below bits xs ws size k h)

      below_answers : (ws : List Span) → length ws ≡ length xs → Below rule bits xs ws vs → (k : ℕ) → k < length xs
          → (least_at rule bits xs ws k ≡ least_at rule bits xs vs k) × ((w : ℕ) → worst_at rule bits xs vs k ≡ Some w → (v : ℕ) × ((worst_at rule bits xs ws k ≡ Some v) × (v ≤ w)))
      below_answers ws size below = answers ws size (λ k h. let b = below k h in omega (arith, b.0, b.1))

      blank_least : (k : ℕ) → k < length xs → least_at rule bits xs (blank rule bits xs) k ≡ least_at rule bits xs vs k
      blank_least k h =
          (answers (blank rule bits xs) (length-replicate (length xs) nowhere)
          (λ j hj. let e = get_or-replicate (length xs) j nowhere nowhere hj in rw e (omega arith)) k h).0

      lead_opens : (n k : ℕ) → k < n → k < length xs → lead_within rule bits xs n k ≡ (span vs k).from
      lead_opens zero k lt h = absurd (not-suc-le-zero lt)
      lead_opens (suc n) k lt h =
          ⊎_elim
          (λ z. lead_head n k z ∙ sym (steady.heads k h z).0)
          (λ l.
          let w = steady.bounded l.at l.below in
          let e = (steady.links l.at k w.0 l.below h l.is w.1).0 in
          let before = lead_opens n l.at (omega (arith, l.earlier)) l.below in
          let least = blank_least l.at l.below in
          let sum = lead_link n k l in
          omega arith)
          (head_or_link bits xs valid k h)

      pub below : (n : ℕ) → Below rule bits xs (table rule bits xs n) vs
      below zero k h =
          ⊎_elim
          (λ z. let e = by_head (first_window rule bits xs) k h z in let d = steady.heads k h z in rw e (omega (arith, d.0, d.1)))
          (λ l.
          let e = by_link (first_window rule bits xs) k h l in
          let from = lead_opens (length xs) k h h in
          let le = opens allows rule laws bits xs valid vs steady k h in
          rw e (omega arith))
          (head_or_link bits xs valid k h)
      below (suc n) k h =
          let before : Below rule bits xs (table rule bits xs n) vs = below n in
          ⊎_elim
          (λ z. let e = by_head (next_window rule bits xs (table rule bits xs n)) k h z in let d = steady.heads k h z in rw e (omega (arith, d.0, d.1)))
          (λ l.
          let w = steady.bounded l.at l.below in
          let d = steady.links l.at k w.0 l.below h l.is w.1 in
          let a = below_answers (table rule bits xs n) (table_length n) before l.at l.below in
          let v = a.1 w.0 w.1 in
          let b = before l.at l.below in
          let e = by_link (next_window rule bits xs (table rule bits xs n)) k h l in
          rw (e, v.1.0) (omega (arith, d.0, d.1, a.0, v.1.1, b.0, b.1)))
          (head_or_link bits xs valid k h)

      pub bounded : (n : ℕ) → AllBounded rule bits xs (table rule bits xs n)
      bounded n k h =
          let w = steady.bounded k h in
          let v = (below_answers (table rule bits xs n) (table_length n) (below n) k h).1 w.0 w.1 in
          (v.0, v.1.0)
