-- The plan is valid, its table steady and the run allowed, so the run is kept.
use Rattle.std.proofs.Common.{◌≡◌, ℕ, zero, suc, ◌+◌, ◌<◌, ◌≤◌, true, [], ◌∷◌, length, Some, refl, ⊎_elim, arith}
use Rattle.service.specs.Traces.{Finishes, Orderly}
use Rattle.bounds.specs.Numbers.{solution_from}
use Rattle.items.specs.Items.{item_at}
use Rattle.items.specs.Conditions.{bit_time_of}
use Rattle.items.specs.Valid.{Valid}
use Rattle.items.specs.Ledger.{placed}
use Rattle.items.proofs.Kept.{opens_valid, edits_keep_valid}
use Rattle.tables.specs.Demands.{least_of, items_on, rows_on, row_of, span}
use Rattle.tables.specs.Tables.{AllBounded, worst_at, least_at, Steady}
use Rattle.tables.specs.Runs.{seen_on, Allowed}
use Rattle.tables.specs.Stands.{FinishWindows}
use Rattle.tables.proofs.Swept.{steady_since}
use Rattle.tables.proofs.Sound.{sound}
use Rattle.sample.specs.Pair.{allows, numbers}
use Rattle.sample.specs.Plan.{bits, items, windows, finish, arrives, run}
use Rattle.sample.specs.Stands.{Sample}
use Rattle.sample.proofs.Pair.{lawful}
use Rattle.sample.proofs.Ran.{arrival, released, finishes, orderly, processor, bus, link}

-- the three items can be placed one after another
valid : Valid bits items
valid =
    let none = opens_valid bits refl in
    let one = edits_keep_valid bits [] (placed (item_at items 0)) none refl in
    let two = edits_keep_valid bits (item_at items 0 ∷ []) (placed (item_at items 1)) one refl in
    edits_keep_valid bits (item_at items 0 ∷ (item_at items 1 ∷ [])) (placed (item_at items 2)) two refl

bounded : AllBounded numbers bits items windows
unfolding solution_from
bounded zero h = (4, refl)
bounded (suc zero) h = (110, refl)
bounded (suc (suc zero)) h = (5, refl)
bounded (suc (suc (suc k))) h = absurd (omega arith)

steady : Steady numbers bits items windows
unfolding solution_from
steady = steady_since numbers bits items valid windows bounded refl

opens : FinishWindows numbers bits items windows finish
unfolding solution_from
opens = record { opens = from; closes = to }
  where
    from : (k : ℕ) → k < length items → (finish k).from ≡ (span windows k).from + least_at numbers bits items windows k
    from zero h = refl
    from (suc zero) h = refl
    from (suc (suc zero)) h = refl
    from (suc (suc (suc k))) h = absurd (omega arith)

    to : (k w : ℕ) → k < length items → worst_at numbers bits items windows k ≡ Some w → (finish k).to ≡ (span windows k).to + w
    to zero w h e = let s : Some 4 ≡ Some w = e in let is : 4 ≡ w = cc in omega arith
    to (suc zero) w h e = let s : Some 110 ≡ Some w = e in let is : 110 ≡ w = cc in omega arith
    to (suc (suc zero)) w h e = let s : Some 5 ≡ Some w = e in let is : 5 ≡ w = cc in omega arith
    to (suc (suc (suc k))) w h e = absurd (omega arith)

allowed : Allowed allows bits items windows run
allowed = record { spaced = spaced; follows = follows; heads = heads; linked = linked; asks = asks; orderly = in_order; ruled = ruled }
  where
    spaced : (k a b : ℕ) → k < length items → (item_at items k).predecessor ≡ 0 → run.arrives (item_at items k).number a ≡ true → run.arrives (item_at items k).number b ≡ true → a < b → a + (item_at items k).period ≤ b
    spaced zero a b h z p q less =
        ⊎_elim
        (λ y. ⊎_elim (λ x. absurd (omega arith)) (λ x. omega arith) (arrival 1 b q))
        (λ y. ⊎_elim (λ x. absurd (omega arith)) (λ x. absurd (omega arith)) (arrival 1 b q))
        (arrival 1 a p)
    spaced (suc zero) a b h z p q less = absurd (omega arith)
    spaced (suc (suc zero)) a b h z p q less = absurd (omega arith)
    spaced (suc (suc (suc k))) a b h z p q less = absurd (omega arith)

    same : (k a : ℕ) → k < length items → run.arrives (item_at items k).number a ≡ arrives 1 a
    same zero a h = refl
    same (suc zero) a h = refl
    same (suc (suc zero)) a h = refl
    same (suc (suc (suc k))) a h = absurd (omega arith)

    follows : (j k a : ℕ) → j < length items → k < length items → (item_at items k).predecessor ≡ (item_at items j).number → run.arrives (item_at items k).number a ≡ run.arrives (item_at items j).number a
    follows j k a hj h e = let l = same j a hj in let m = same k a h in cc

    heads : (k a : ℕ) → k < length items → (item_at items k).predecessor ≡ 0 → run.arrives (item_at items k).number a ≡ true → (r : ℕ) × ((run.release (item_at items k).number a ≡ Some r) × ((a ≤ r) × (r ≤ a + (item_at items k).delay)))
    heads zero a h z here = (a + 1, (released 1 a here, (omega arith, omega arith)))
    heads (suc zero) a h z here = absurd (omega arith)
    heads (suc (suc zero)) a h z here = absurd (omega arith)
    heads (suc (suc (suc k))) a h z here = absurd (omega arith)

    linked : (j k a r : ℕ) → j < length items → k < length items → (item_at items k).predecessor ≡ (item_at items j).number → (Finishes run (item_at items j).number a r → run.release (item_at items k).number a ≡ Some r) × (run.release (item_at items k).number a ≡ Some r → Finishes run (item_at items j).number a r)
    linked zero zero a r hj h e = absurd (omega arith)
    linked zero (suc zero) a r hj h e = link 1 2 (λ b. refl) refl a r
    linked zero (suc (suc zero)) a r hj h e = absurd (omega arith)
    linked zero (suc (suc (suc k))) a r hj h e = absurd (omega arith)
    linked (suc zero) zero a r hj h e = absurd (omega arith)
    linked (suc zero) (suc zero) a r hj h e = absurd (omega arith)
    linked (suc zero) (suc (suc zero)) a r hj h e = link 2 3 (λ b. refl) refl a r
    linked (suc zero) (suc (suc (suc k))) a r hj h e = absurd (omega arith)
    linked (suc (suc zero)) zero a r hj h e = absurd (omega arith)
    linked (suc (suc zero)) (suc zero) a r hj h e = absurd (omega arith)
    linked (suc (suc zero)) (suc (suc zero)) a r hj h e = absurd (omega arith)
    linked (suc (suc zero)) (suc (suc (suc k))) a r hj h e = absurd (omega arith)
    linked (suc (suc (suc j))) k a r hj h e = absurd (omega arith)

    asks : (k a : ℕ) → k < length items → run.arrives (item_at items k).number a ≡ true → least_of (bit_time_of bits (item_at items k).resource) (item_at items k).work ≤ run.demand (item_at items k).number a
    asks zero a h here = omega arith
    asks (suc zero) a h here = omega arith
    asks (suc (suc zero)) a h here = omega arith
    asks (suc (suc (suc k))) a h here = absurd (omega arith)

    in_order : (r : ℕ) → 1 ≤ r → r ≤ length bits → Orderly (length (items_on r items)) (seen_on items r run)
    in_order zero low high = absurd (omega arith)
    in_order (suc zero) low high = orderly (item_at items 0)
    in_order (suc (suc zero)) low high = orderly (item_at items 1)
    in_order (suc (suc (suc zero))) low high = orderly (item_at items 2)
    in_order (suc (suc (suc (suc r)))) low high = absurd (omega arith)

    ruled : (r : ℕ) → 1 ≤ r → r ≤ length bits → allows (bit_time_of bits r) (rows_on bits items r items windows) (seen_on items r run)
    ruled zero low high = absurd (omega arith)
    ruled (suc zero) low high = processor (item_at items 0) (row_of bits items (item_at items 0) (span windows 0)) (omega arith, omega arith)
    ruled (suc (suc zero)) low high = bus (item_at items 1) (row_of bits items (item_at items 1) (span windows 1)) (omega arith, omega arith)
    ruled (suc (suc (suc zero))) low high = processor (item_at items 2) (row_of bits items (item_at items 2) (span windows 2)) (omega arith, omega arith)
    ruled (suc (suc (suc (suc r)))) low high = absurd (omega arith)

pub sample : Sample
sample = record {
  lawful = lawful;
  valid = valid;
  steady = steady;
  opens = opens;
  allowed = allowed;
  first = finishes 3 0 refl;
  second = finishes 3 200 refl;
  kept = sound allows numbers lawful bits items windows finish valid steady opens run allowed;
}
