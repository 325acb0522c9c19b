-- An item's place among those on its resource: the item and the row that stand there, and back from a place to the item.
use Rattle.std.proofs.Common.{◌≡◌, ℕ, zero, suc, ◌<◌, Bool, true, false, cond, eqb, List, [], ◌∷◌, length, take, refl, ap, le_of_suc-le-suc, not-suc-le-zero, arith}
use Rattle.std.proofs.lemmas.Bool.{eq-eqb, eqb-true}
use Rattle.service.specs.Rows.{row}
use Rattle.items.specs.declared.Item.{Item}
use Rattle.items.specs.Items.{item_at}
use Rattle.tables.specs.Demands.{Span, span, row_of, items_on, rows_on}

-- how many of the first k items are on a resource
abbrev pub seat : ℕ → List Item → ℕ → ℕ
seat r xs k = length (items_on r (take k xs))

pub seat_below : (r : ℕ) (xs : List Item) (k : ℕ) → k < length xs → (item_at xs k).resource ≡ r → seat r xs k < length (items_on r xs)
seat_below r [] k h e = absurd (not-suc-le-zero h)
seat_below r (x ∷ xs) zero h e = rw (eq-eqb x.resource r e) (omega arith)
seat_below r (x ∷ xs) (suc k) h e =
    let below : seat r xs k < length (items_on r xs) = seat_below r xs k (le_of_suc-le-suc h) e in
    elim (eqb x.resource r) as (λ b. length (cond b (x ∷ items_on r (take k xs)) (items_on r (take k xs))) < length (cond b (x ∷ items_on r xs) (items_on r xs)))
    [ true ↦ omega arith | false ↦ below ]

pub seat_item : (r : ℕ) (xs : List Item) (k : ℕ) → k < length xs → (item_at xs k).resource ≡ r → item_at (items_on r xs) (seat r xs k) ≡ item_at xs k
seat_item r [] k h e = absurd (not-suc-le-zero h)
seat_item r (x ∷ xs) zero h e = rw (eq-eqb x.resource r e)
seat_item r (x ∷ xs) (suc k) h e =
    let same = seat_item r xs k (le_of_suc-le-suc h) e in
    elim (eqb x.resource r) as (λ b. item_at (cond b (x ∷ items_on r xs) (items_on r xs)) (length (cond b (x ∷ items_on r (take k xs)) (items_on r (take k xs)))) ≡ item_at xs k)
    [ true ↦ same | false ↦ same ]

module _ (bits : List ℕ) (all : List Item) where
  pub rows_length : (r : ℕ) (xs : List Item) (ws : List Span) → length ws ≡ length xs → length (rows_on bits all r xs ws) ≡ length (items_on r xs)
  rows_length r [] ws e = refl
  rows_length r (x ∷ xs) [] e = absurd (omega arith)
  rows_length r (x ∷ xs) (w ∷ ws) e =
      let same : length (rows_on bits all r xs ws) ≡ length (items_on r xs) = rows_length r xs ws (omega arith) in
      elim (eqb x.resource r) as (λ b. length (cond b (row_of bits all x w ∷ rows_on bits all r xs ws) (rows_on bits all r xs ws)) ≡ length (cond b (x ∷ items_on r xs) (items_on r xs)))
      [ true ↦ ap suc same | false ↦ same ]

  pub seat_row : (r : ℕ) (xs : List Item) (ws : List Span) (k : ℕ) → length ws ≡ length xs → k < length xs → (item_at xs k).resource ≡ r → row (rows_on bits all r xs ws) (seat r xs k) ≡ row_of bits all (item_at xs k) (span ws k)
  seat_row r [] ws k s h e = absurd (not-suc-le-zero h)
  seat_row r (x ∷ xs) [] k s h e = absurd (omega arith)
  seat_row r (x ∷ xs) (w ∷ ws) zero s h e = rw (eq-eqb x.resource r e)
  seat_row r (x ∷ xs) (w ∷ ws) (suc k) s h e =
      let same = seat_row r xs ws k (omega arith) (le_of_suc-le-suc h) e in
      elim (eqb x.resource r) as (λ b. row (cond b (row_of bits all x w ∷ rows_on bits all r xs ws) (rows_on bits all r xs ws)) (length (cond b (x ∷ items_on r (take k xs)) (items_on r (take k xs)))) ≡ row_of bits all (item_at xs k) (span ws k))
      [ true ↦ same | false ↦ same ]

-- the item that has a place
pub record Sitter (r : ℕ) (xs : List Item) (p : ℕ) : Type 0 where
  pub at : ℕ
  pub below : at < length xs
  pub on : (item_at xs at).resource ≡ r
  pub place : seat r xs at ≡ p

pub sitter : (r : ℕ) (xs : List Item) (p : ℕ) → p < length (items_on r xs) → Sitter r xs p
sitter r [] p h = absurd (not-suc-le-zero h)
sitter r (x ∷ xs) p h = go (eqb x.resource r) refl p h (sitter r xs)
  where
    go : (b : Bool) → eqb x.resource r ≡ b → (p : ℕ) → p < length (cond b (x ∷ items_on r xs) (items_on r xs)) → ((q : ℕ) → q < length (items_on r xs) → Sitter r xs q) → Sitter r (x ∷ xs) p
    go true e zero h rest = record { at = 0; below = omega arith; on = eqb-true x.resource r e; place = refl }
    go true e (suc p) h rest =
        let s = rest p (le_of_suc-le-suc h) in
        record { at = suc s.at; below = omega (arith, s.below); on = s.on; place = rw e (ap suc s.place) }
    go false e p h rest =
        let s = rest p h in
        record { at = suc s.at; below = omega (arith, s.below); on = s.on; place = rw e s.place }
