-- How many of the first items are on a resource, one item further.
use Rattle.std.proofs.Common.{◌≡◌, ℕ, zero, suc, ◌+◌, ◌<◌, true, false, cond, eqb, List, [], ◌∷◌, length, take, ap, le_of_suc-le-suc, not-suc-le-zero, add-one}
use Rattle.items.specs.declared.Item.{Item}
use Rattle.items.specs.Items.{item_at}
use Rattle.tables.specs.Demands.{items_on}
use Rattle.tables.proofs.Places.{seat}

seat_on : (r : ℕ) (xs : List Item) (k : ℕ) → k < length xs → eqb (item_at xs k).resource r ≡ true → seat r xs (suc k) ≡ suc (seat r xs k)
seat_on r [] k h on = absurd (not-suc-le-zero h)
seat_on r (x ∷ xs) zero h on = rw on
seat_on r (x ∷ xs) (suc k) h on =
    let more = seat_on r xs k (le_of_suc-le-suc h) on in
    elim (eqb x.resource r) as (λ b. length (cond b (x ∷ items_on r (take (suc k) xs)) (items_on r (take (suc k) xs))) ≡ suc (length (cond b (x ∷ items_on r (take k xs)) (items_on r (take k xs)))))
    [ true ↦ ap suc more | false ↦ more ]

seat_off : (r : ℕ) (xs : List Item) (k : ℕ) → k < length xs → eqb (item_at xs k).resource r ≡ false → seat r xs (suc k) ≡ seat r xs k
seat_off r [] k h off = absurd (not-suc-le-zero h)
seat_off r (x ∷ xs) zero h off = rw off
seat_off r (x ∷ xs) (suc k) h off =
    let more = seat_off r xs k (le_of_suc-le-suc h) off in
    elim (eqb x.resource r) as (λ b. length (cond b (x ∷ items_on r (take (suc k) xs)) (items_on r (take (suc k) xs))) ≡ length (cond b (x ∷ items_on r (take k xs)) (items_on r (take k xs))))
    [ true ↦ ap suc more | false ↦ more ]

pub seat_more : (r : ℕ) (xs : List Item) (k : ℕ) → k < length xs → eqb (item_at xs k).resource r ≡ true → seat r xs (k + 1) ≡ seat r xs k + 1
seat_more r xs k h on = rw (add-one k, add-one (seat r xs k)) (seat_on r xs k h on)

pub seat_same : (r : ℕ) (xs : List Item) (k : ℕ) → k < length xs → eqb (item_at xs k).resource r ≡ false → seat r xs (k + 1) ≡ seat r xs k
seat_same r xs k h off = rw (add-one k) (seat_off r xs k h off)
