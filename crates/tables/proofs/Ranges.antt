-- The tables that a settle meets keep in range: their records are rows, and their windows open and close in bounds.
use Rattle.std.proofs.Common.{◌≡◌, ℕ, zero, suc, ◌+◌, ◌-◌, ◌*◌, ◌<◌, ◌≤◌, List, length, Some, sym, ap, ◌∙◌, ⊎_elim, not-suc-le-zero, mul-le-mul, arith}
use lib.ListN.{length-replicate, get_or-replicate}
use Rattle.service.specs.declared.Record.{Record}
use Rattle.service.specs.Traces.{Trace}
use Rattle.service.specs.Rows.{row, IsRow, Rows}
use Rattle.items.specs.declared.Item.{Item}
use Rattle.items.specs.declared.Work.{Work}
use Rattle.items.specs.declared.Work.TheVariants.{Task, Frame}
use Rattle.items.specs.Items.{item_at}
use Rattle.items.specs.Conditions.{bit_time_of}
use Rattle.items.specs.Valid.{Valid, ValidWork}
use Rattle.tables.specs.Demands.{Span, nowhere, span, least_of, greatest_of, period_within, period_of, row_of, place_on}
use Rattle.service.specs.Numbers.{Numbers}
use Rattle.tables.specs.Tables.{least_at, worst_at, AllBounded, blank, lead_within, lead, first_window, first_table, next_window, swept, table}
use Rattle.service.specs.Laws.{LawfulRule}
use Rattle.tables.specs.Stands.{Reached, InRange}
use Rattle.tables.proofs.Chains.{head_or_link, period_head, period_link}
use Rattle.tables.proofs.Rowed.{rows, sitter_of, sitter_row, rows_apart, rows_looser, place_below, place_row}
use Rattle.tables.proofs.Swept.{by_head, by_link, lead_head, lead_link, lead_none, lead_next, table_length}

work_range : (bit : ℕ) (w : Work) → ValidWork bit w → bit ≤ 100 → (1 ≤ least_of bit w) × (least_of bit w ≤ greatest_of bit w) × (greatest_of bit w ≤ 20000000)
work_range bit (Task low high) v b = (v.1, v.2, omega (arith, v.3))
work_range bit (Frame s) v b =
    let some = v.0 in
    let few = v.1 in
    let long : 55 + 10 * s ≤ 135 = omega arith in
    let most : (55 + 10 * s) * bit ≤ 135 * 100 = mul-le-mul long b in
    (omega arith, omega arith, omega arith)

module _ (bits : List ℕ) (xs : List Item) (valid : Valid bits xs) where
  bit_high : (k : ℕ) → k < length xs → bit_time_of bits (item_at xs k).resource ≤ 100
  bit_high k h =
      let v = valid.each k h in
      valid.bit_times ((item_at xs k).resource - 1) (omega (arith, v.resource_low, v.resource_high))

  period_range : (n k : ℕ) → k < n → k < length xs → (1 ≤ period_within n xs (Some (item_at xs k))) × (period_within n xs (Some (item_at xs k)) ≤ 10000000)
  period_range zero k lt h = absurd (not-suc-le-zero lt)
  period_range (suc n) k lt h =
      ⊎_elim
      (λ z. let v = (valid.each k h).head z in rw (period_head bits xs valid n k z) (v.0, v.1))
      (λ l. rw (period_link bits xs valid n k l) (period_range n l.at (omega (arith, l.earlier)) l.below))
      (head_or_link bits xs valid k h)

  -- the record of an item is a row if its window is not too long
  pub row_good : (k : ℕ) → k < length xs → (w : Span) → w.to - w.from ≤ 10000000 → IsRow (row_of bits xs (item_at xs k) w)
  row_good k h w short =
      let period = period_range (length xs) k h h in
      let work = work_range (bit_time_of bits (item_at xs k).resource) (item_at xs k).work (valid.each k h).work (bit_high k h) in
      record { period_low = period.0; period_high = period.1; jitter_high = short; least_low = work.0; least_high = work.1; greatest_high = work.2 }

  pub rows_in_range : (ws : List Span) → length ws ≡ length xs → ((k : ℕ) → k < length xs → (span ws k).to - (span ws k).from ≤ 10000000) → (r : ℕ) → Rows (rows bits xs ws r)
  rows_in_range ws size short r = record {
    each = λ p h.
        let s = sitter_of bits xs ws size r p h in
        rw (sitter_row bits xs ws size r p s) (row_good s.at s.below (span ws s.at) (short s.at s.below));
    apart = rows_apart bits xs ws size valid r;
  }

module _ (allows : ℕ → List Record → Trace → Type 0) (rule : Numbers) (laws : LawfulRule allows rule) (bits : List ℕ) (xs : List Item) (valid : Valid bits xs) where
  blank_length : length (blank rule bits xs) ≡ length xs
  blank_length = length-replicate (length xs) nowhere

  blank_short : (n k : ℕ) → k < length xs → (span (blank rule bits xs) k).to - (span (blank rule bits xs) k).from ≤ n
  blank_short n k h = let e = get_or-replicate (length xs) k nowhere nowhere h in rw e (omega arith)

  -- beside a table whose windows are not too long
  module _ (ws : List Span) (size : length ws ≡ length xs) (short : (k : ℕ) → k < length xs → (span ws k).to - (span ws k).from ≤ 10000000) where
    answers_range : (k : ℕ) → k < length xs
        → ((1 ≤ least_at rule bits xs ws k) × (least_at rule bits xs ws k ≤ 20000000)) × ((w : ℕ) → worst_at rule bits xs ws k ≡ Some w → (least_at rule bits xs ws k ≤ w) × ((span ws k).to - (span ws k).from + w ≤ 10000000))
    answers_range k h =
        let r = (item_at xs k).resource in
        let all = (laws (bit_time_of bits r)).ranged (rows bits xs ws r) (rows_in_range bits xs valid ws size short r) (place_on xs k) (place_below bits xs ws size k h) in
        let here = place_row bits xs ws size k h in
        let jitter : (row (rows bits xs ws r) (place_on xs k)).jitter ≡ (span ws k).to - (span ws k).from = ap (λ (x : Record). x.jitter) here in
        let period : (row (rows bits xs ws r) (place_on xs k)).period ≡ period_of xs (item_at xs k) = ap (λ (x : Record). x.period) here in
        let high = (period_range bits xs valid (length xs) k h h).1 in
        (all.0, λ w e. let both = all.1 w e in (both.0, omega (arith, both.1)))

    least_blank : (k : ℕ) → k < length xs → least_at rule bits xs (blank rule bits xs) k ≡ least_at rule bits xs ws k
    least_blank k h =
        let r = (item_at xs k).resource in
        ((laws (bit_time_of bits r)).rising (rows bits xs (blank rule bits xs) r) (rows bits xs ws r)
        (rows_in_range bits xs valid (blank rule bits xs) blank_length (blank_short 10000000) r) (rows_in_range bits xs valid ws size short r)
        (rows_looser bits xs (blank rule bits xs) ws blank_length size (λ j hj. blank_short _ j hj) r)
        (place_on xs k) (place_below bits xs (blank rule bits xs) blank_length k h)).0

  -- so the answers to empty windows are in range
  pub blank_range : (k : ℕ) → k < length xs
      → ((1 ≤ least_at rule bits xs (blank rule bits xs) k) × (least_at rule bits xs (blank rule bits xs) k ≤ 20000000)) × ((w : ℕ) → worst_at rule bits xs (blank rule bits xs) k ≡ Some w → (least_at rule bits xs (blank rule bits xs) k ≤ w) × ((span (blank rule bits xs) k).to - (span (blank rule bits xs) k).from + w ≤ 10000000))
  blank_range = answers_range (blank rule bits xs) blank_length (blank_short 10000000)

  lead_high : (n k : ℕ) → k < n → k < length xs → lead_within rule bits xs n k ≤ 20000000 * k
  lead_high zero k lt h = absurd (not-suc-le-zero lt)
  lead_high (suc n) k lt h =
      ⊎_elim
      (λ z. rw (lead_head rule bits xs valid n k z) (omega arith))
      (λ l.
      let before : lead_within rule bits xs n l.at ≤ 20000000 * l.at = lead_high n l.at (omega (arith, l.earlier)) l.below in
      let step = lead_link rule bits xs valid n k l in
      let least = (blank_range l.at l.below).0.1 in
      let earlier = l.earlier in
      omega arith)
      (head_or_link bits xs valid k h)

  range_first : (k : ℕ) → k < length xs → InRange rule bits xs (first_table rule bits xs) k
  range_first k h =
      let high = lead_high (length xs) k h h in
      ⊎_elim
      (λ z.
      let e = by_head rule bits xs (first_window rule bits xs) k h z in
      let delay = ((valid.each k h).head z).2 in
      let none : lead rule bits xs k ≡ 0 = lead_none rule bits xs valid (length xs) k z in
      record { ordered = rw e (omega arith); jitter = rw e (omega arith); opens = rw e (omega arith); high = rw e (omega arith) })
      (λ l.
      let e = by_link rule bits xs valid (first_window rule bits xs) k h l in
      record { ordered = rw e (omega arith); jitter = rw e (omega arith); opens = rw e; high = rw e (omega arith) })
      (head_or_link bits xs valid k h)

  range_next : (ws : List Span) → length ws ≡ length xs → ((k : ℕ) → k < length xs → InRange rule bits xs ws k) → AllBounded rule bits xs ws → (k : ℕ) → k < length xs → InRange rule bits xs (swept rule bits xs ws) k
  range_next ws size range all k h =
      let high = lead_high (length xs) k h h in
      ⊎_elim
      (λ z.
      let first = range_first k h in
      let same : span (swept rule bits xs ws) k ≡ span (first_table rule bits xs) k = by_head rule bits xs (next_window rule bits xs ws) k h z ∙ sym (by_head rule bits xs (first_window rule bits xs) k h z) in
      record { ordered = rw same first.ordered; jitter = rw same first.jitter; opens = rw same first.opens; high = rw same first.high })
      (λ l.
      let e = by_link rule bits xs valid (next_window rule bits xs ws) k h l in
      let short : (j : ℕ) → j < length xs → (span ws j).to - (span ws j).from ≤ 10000000 = λ j hj. (range j hj).jitter in
      let w = all l.at l.below in
      let answers = (answers_range ws size short l.at l.below).1 w.0 w.1 in
      let before = range l.at l.below in
      let least = least_blank ws size short l.at l.below in
      let step = lead_next rule bits xs valid (length xs) k h h l in
      let opens : (span ws l.at).from + least_at rule bits xs ws l.at ≡ lead rule bits xs k = omega (arith, before.opens) in
      record {
        ordered = rw (e, w.1) (omega (arith, before.ordered, answers.0));
        jitter = rw (e, w.1) (omega (arith, before.ordered, answers.0, answers.1));
        opens = rw e opens;
        high = rw e (omega arith);
      })
      (head_or_link bits xs valid k h)

  pub in_range : (n : ℕ) → Reached rule bits xs n → (k : ℕ) → k < length xs → InRange rule bits xs (table rule bits xs n) k
  in_range zero reached = range_first
  in_range (suc n) reached = range_next (table rule bits xs n) (table_length rule bits xs n) (in_range n (λ m lt. reached m (omega arith))) (reached n (omega arith))

  pub least_range : (n : ℕ) → Reached rule bits xs n → (k : ℕ) → k < length xs → (1 ≤ least_at rule bits xs (table rule bits xs n) k) × (least_at rule bits xs (table rule bits xs n) k ≤ 20000000)
  least_range n reached k h = (answers_range (table rule bits xs n) (table_length rule bits xs n) (λ j hj. (in_range n reached j hj).jitter) k h).0

  pub worst_range : (n : ℕ) → Reached rule bits xs n → (k w : ℕ) → k < length xs → worst_at rule bits xs (table rule bits xs n) k ≡ Some w
      → (least_at rule bits xs (table rule bits xs n) k ≤ w) × ((span (table rule bits xs n) k).to - (span (table rule bits xs n) k).from + w ≤ 10000000)
  worst_range n reached k w h = (answers_range (table rule bits xs n) (table_length rule bits xs n) (λ j hj. (in_range n reached j hj).jitter) k h).1 w

  pub opens_low : AllBounded rule bits xs (table rule bits xs 0) → (n k : ℕ) → k < n → k < length xs → lead_within rule bits xs n k ≤ 10000000 * k
  opens_low all zero k lt h = absurd (not-suc-le-zero lt)
  opens_low all (suc n) k lt h =
      ⊎_elim
      (λ z. rw (lead_head rule bits xs valid n k z) (omega arith))
      (λ l.
      let before : lead_within rule bits xs n l.at ≤ 10000000 * l.at = opens_low all n l.at (omega (arith, l.earlier)) l.below in
      let step = lead_link rule bits xs valid n k l in
      let short : (j : ℕ) → j < length xs → (span (first_table rule bits xs) j).to - (span (first_table rule bits xs) j).from ≤ 10000000 = λ j hj. (range_first j hj).jitter in
      let size = table_length rule bits xs 0 in
      let same = least_blank (first_table rule bits xs) size short l.at l.below in
      let w = all l.at l.below in
      let range = (answers_range (first_table rule bits xs) size short l.at l.below).1 w.0 w.1 in
      omega (arith, range.0, range.1))
      (head_or_link bits xs valid k h)
