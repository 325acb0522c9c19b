-- The rows that a table gives a resource: which item each belongs to, that they are rows, and that smaller windows give tighter rows.
use Rattle.std.proofs.Common.{◌≡◌, ℕ, ◌-◌, ◌<◌, ◌≤◌, List, length, Some, sym, refl, ap, ◌∙◌, subst, arith}
use Rattle.service.specs.declared.Record.{Record}
use Rattle.service.specs.Rows.{row, IsRow, Rows, Looser}
use Rattle.service.specs.Laws.{Unfit}
use Rattle.service.proofs.Answered.{fit_since}
use Rattle.items.specs.declared.Item.{Item}
use Rattle.items.specs.Items.{item_at}
use Rattle.items.specs.Valid.{Valid}
use Rattle.tables.specs.Demands.{Span, span, row_of, rows_on, place_on}
use Rattle.service.specs.Numbers.{Numbers}
use Rattle.tables.specs.Tables.{worst_at}
use Rattle.tables.proofs.Places.{seat, seat_below, seat_row, rows_length, Sitter, sitter}

-- what is a row stays one under a smaller jitter
pub rows_tighter : (rs ss : List Record) → Looser rs ss → Rows ss → Rows rs
rows_tighter rs ss less ok = record {
  each = λ p h.
      let long = less.same_length in
      let r = ok.each p (omega arith) in
      let period = less.same_period p h in
      let low = less.same_least p h in
      let high = less.same_greatest p h in
      let jitter = less.jitter p h in
      record {
        period_low = omega (arith, r.period_low);
        period_high = omega (arith, r.period_high);
        jitter_high = omega (arith, r.jitter_high);
        least_low = omega (arith, r.least_low);
        least_high = omega (arith, r.least_high);
        greatest_high = omega (arith, r.greatest_high);
      };
  apart = λ p q h k e.
      let long = less.same_length in
      ok.apart p q (omega arith) (omega arith) (sym (less.same_priority p h) ∙ e ∙ less.same_priority q k);
}

module _ (bits : List ℕ) (xs : List Item) where
  -- the rows of a resource
  abbrev pub rows : List Span → ℕ → List Record
  rows ws r = rows_on bits xs r xs ws

  module _ (ws : List Span) (size : length ws ≡ length xs) where
    pub sitter_of : (r p : ℕ) → p < length (rows ws r) → Sitter r xs p
    sitter_of r p h = let long = rows_length bits xs r xs ws size in sitter r xs p (omega arith)

    pub sitter_row : (r p : ℕ) (s : Sitter r xs p) → row (rows ws r) p ≡ row_of bits xs (item_at xs s.at) (span ws s.at)
    sitter_row r p s = rw s.place at (seat_row bits xs r xs ws s.at size s.below s.on)

    -- at the place of the item at k
    pub place_below : (k : ℕ) → k < length xs → place_on xs k < length (rows ws (item_at xs k).resource)
    place_below k h =
        let long = rows_length bits xs (item_at xs k).resource xs ws size in
        let below = seat_below (item_at xs k).resource xs k h refl in
        omega arith

    pub place_row : (k : ℕ) → k < length xs → row (rows ws (item_at xs k).resource) (place_on xs k) ≡ row_of bits xs (item_at xs k) (span ws k)
    place_row k h = seat_row bits xs (item_at xs k).resource xs ws k size h refl

    pub rows_apart : Valid bits xs → (r p q : ℕ) → p < length (rows ws r) → q < length (rows ws r) → (row (rows ws r) p).priority ≡ (row (rows ws r) q).priority → p ≡ q
    rows_apart valid r p q h k e =
        let s = sitter_of r p h in
        let t = sitter_of r q k in
        let left : (row (rows ws r) p).priority ≡ (item_at xs s.at).priority = ap (λ (x : Record). x.priority) (sitter_row r p s) in
        let right : (row (rows ws r) q).priority ≡ (item_at xs t.at).priority = ap (λ (x : Record). x.priority) (sitter_row r q t) in
        let same : s.at ≡ t.at = valid.apart s.at t.at s.below t.below (s.on ∙ sym t.on) (sym left ∙ e ∙ right) in
        sym s.place ∙ ap (λ (n : ℕ). seat r xs n) same ∙ t.place

    -- a table with a worst for every item gives rows
    pub rows_good : (rule : Numbers) → ((bit : ℕ) → Unfit (rule.least bit) (rule.worst bit)) → Valid bits xs → ((k : ℕ) → k < length xs → (w : ℕ) × (worst_at rule bits xs ws k ≡ Some w)) → (r : ℕ) → Rows (rows ws r)
    rows_good rule unfit valid all r = record {
      each = λ p h.
          let s = sitter_of r p h in
          let w = all s.at s.below in
          subst (λ (i : ℕ). p < length (rows ws i) → IsRow (row (rows ws i) p)) s.on (λ l. fit_since _ _ (unfit _) _ _ w.0 w.1 p l) h;
      apart = rows_apart valid r;
    }

  module _ (ws vs : List Span) (size : length ws ≡ length xs) (size' : length vs ≡ length xs) where
    -- shorter windows give tighter rows
    pub rows_looser : ((k : ℕ) → k < length xs → (span ws k).to - (span ws k).from ≤ (span vs k).to - (span vs k).from) → (r : ℕ) → Looser (rows ws r) (rows vs r)
    rows_looser less r = record {
      same_length = rows_length bits xs r xs ws size ∙ sym (rows_length bits xs r xs vs size');
      same_priority = λ p h. let s = sitter_of ws size r p h in ap (λ (x : Record). x.priority) (sitter_row ws size r p s) ∙ sym (ap (λ (x : Record). x.priority) (sitter_row vs size' r p s));
      same_period = λ p h. let s = sitter_of ws size r p h in ap (λ (x : Record). x.period) (sitter_row ws size r p s) ∙ sym (ap (λ (x : Record). x.period) (sitter_row vs size' r p s));
      same_least = λ p h. let s = sitter_of ws size r p h in ap (λ (x : Record). x.least) (sitter_row ws size r p s) ∙ sym (ap (λ (x : Record). x.least) (sitter_row vs size' r p s));
      same_greatest = λ p h. let s = sitter_of ws size r p h in ap (λ (x : Record). x.greatest) (sitter_row ws size r p s) ∙ sym (ap (λ (x : Record). x.greatest) (sitter_row vs size' r p s));
      jitter = λ p h.
          let s = sitter_of ws size r p h in
          let left : (row (rows ws r) p).jitter ≡ (span ws s.at).to - (span ws s.at).from = ap (λ (x : Record). x.jitter) (sitter_row ws size r p s) in
          let right : (row (rows vs r) p).jitter ≡ (span vs s.at).to - (span vs s.at).from = ap (λ (x : Record). x.jitter) (sitter_row vs size' r p s) in
          let middle = less s.at s.below in
          rw (left, right) middle;
    }
