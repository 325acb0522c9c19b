-- What a smallest solution is, when there is one, and ceilings.
use Rattle.std.proofs.Common.{◌≡◌, ℕ, zero, suc, ◌+◌, ◌-◌, ◌*◌, ◌<◌, ◌≤◌, Bool, true, false, cond, eqb, ◌⊎◌, Some, None, sym, refl, subst, inl, inr, le-div_iff_mul-le, div-mul-le_self, arith}
use native.Mathlib.Nat.{lt-mul-div-succ}
use Rattle.std.proofs.lemmas.Bool.{eqb-true, eqb-false, eq-eqb, cases_eq, cases_lt}
use Rattle.bounds.specs.Numbers.{ceiling, solution, solution_from, Rises, Under}

-- a solution that was found is one, and lies in the range searched
abbrev Found : (ℕ → ℕ) → ℕ → ℕ → ℕ → Type 0
Found step from many w = (step w ≡ w) × (from ≤ w) × (w ≤ from + many)

solution_from_is : (step : ℕ → ℕ) (from many w : ℕ) → solution_from step from many ≡ Some w → Found step from many w
unfolding solution_from
solution_from_is step from zero w e₀ = go (eqb (step from) from) refl e₀
  where
    go : (b : Bool) → eqb (step from) from ≡ b → cond b (Some from) None ≡ Some w → Found step from 0 w
    go true h e =
        let from_w : from ≡ w = cc in
        let fixed : step from ≡ from = eqb-true _ _ h in
        (subst (λ (v : ℕ). step v ≡ v) from_w fixed, omega arith, omega arith)
    go false h e = let z : ◌≡◌ {A = ℕ} 0 1 = cc in omega arith
solution_from_is step from (suc many) w e₀ = go (solution_from_is step (from + 1) many w) (eqb (step from) from) refl e₀
  where
    go : (solution_from step (from + 1) many ≡ Some w → Found step (from + 1) many w)
        → (b : Bool) → eqb (step from) from ≡ b → cond b (Some from) (solution_from step (from + 1) many) ≡ Some w → Found step from (suc many) w
    go ih true h e =
        let from_w : from ≡ w = cc in
        let fixed : step from ≡ from = eqb-true _ _ h in
        (subst (λ (v : ℕ). step v ≡ v) from_w fixed, omega arith, omega arith)
    go ih false h e = let f : Found step (from + 1) many w = ih e in (f.0, omega arith, omega arith)

-- where the range holds a solution, one no larger is found
solution_from_finds : (step : ℕ → ℕ) (from many v : ℕ) → from ≤ v → v ≤ from + many → step v ≡ v
    → (u : ℕ) × ((solution_from step from many ≡ Some u) × (u ≤ v))
unfolding solution_from
solution_from_finds step from zero v low high fixed =
    let same : v ≡ from = omega arith in
    let hit : eqb (step from) from ≡ true = eq-eqb _ _ (subst (λ (n : ℕ). step n ≡ n) same fixed) in
    (from, (rw hit refl, omega arith))
solution_from_finds step from (suc many) v low high fixed = go (solution_from_finds step (from + 1) many v) (eqb (step from) from) refl
  where
    go : (from + 1 ≤ v → v ≤ from + 1 + many → step v ≡ v → (u : ℕ) × ((solution_from step (from + 1) many ≡ Some u) × (u ≤ v)))
        → (b : Bool) → eqb (step from) from ≡ b → (u : ℕ) × ((cond b (Some from) (solution_from step (from + 1) many) ≡ Some u) × (u ≤ v))
    go ih true h = (from, (refl, low))
    go ih false h =
        let differs : from ≡ v → ⊥ = λ e. eqb-false _ _ h (subst (λ (n : ℕ). step n ≡ n) (sym e) fixed) in
        ih (omega arith) (omega arith) fixed

pub solution_is : (step : ℕ → ℕ) (limit w : ℕ) → solution step limit ≡ Some w → (step w ≡ w) × (w ≤ limit)
solution_is step limit w e = let f : Found step 0 limit w = solution_from_is step 0 limit w e in (f.0, omega arith)

pub solution_finds : (step : ℕ → ℕ) (limit v : ℕ) → v ≤ limit → step v ≡ v → (u : ℕ) × ((solution step limit ≡ Some u) × (u ≤ v))
solution_finds step limit v high fixed = solution_from_finds step 0 limit v (omega arith) (omega arith) fixed

-- a rising step that does not climb at w has a solution up to w
fixed_below : (step : ℕ → ℕ) → Rises step → (fuel w : ℕ) → w < fuel → step w ≤ w → (v : ℕ) × ((step v ≡ v) × (v ≤ w))
fixed_below step rises zero w small h = absurd (omega arith)
fixed_below step rises (suc fuel) w small h = go (fixed_below step rises fuel (step w)) (cases_eq (step w) w)
  where
    go : (step w < fuel → step (step w) ≤ step w → (v : ℕ) × ((step v ≡ v) × (v ≤ step w)))
        → (step w ≡ w) ⊎ (step w ≡ w → ⊥) → (v : ℕ) × ((step v ≡ v) × (v ≤ w))
    go ih (inl e) = (w, (e, omega arith))
    go ih (inr n) = let r : (v : ℕ) × ((step v ≡ v) × (v ≤ step w)) = ih (omega arith) (rises (step w) w h) in (r.0, (r.1.0, omega arith))

-- a rising step leads no lower from a number that no solution is below
pub climbs : (step : ℕ → ℕ) → Rises step → (n : ℕ) → Under step n → n ≤ step n
climbs step rises n under = go (cases_lt (step n) n)
  where
    go : (step n < n) ⊎ (n ≤ step n) → n ≤ step n
    go (inr up) = up
    go (inl down) =
        let r : (v : ℕ) × ((step v ≡ v) × (v ≤ step n)) = fixed_below step rises (suc (step n)) (step n) (omega arith) (rises (step n) n (omega arith)) in
        absurd (omega (arith, under r.0 r.1.0))

-- and to another such number
pub next_under : (step : ℕ → ℕ) → Rises step → (n : ℕ) → Under step n → Under step (step n)
next_under step rises n under k fixed = omega (arith, rises n k (under k fixed))

-- a smaller rising step has a smaller solution
pub solution_rises : (f g : ℕ → ℕ) → Rises f → ((n : ℕ) → f n ≤ g n) → (limit w : ℕ) → solution g limit ≡ Some w
    → (v : ℕ) × ((solution f limit ≡ Some v) × (v ≤ w))
solution_rises f g rises below limit w e =
    let is : (g w ≡ w) × (w ≤ limit) = solution_is g limit w e in
    let low : f w ≤ w = omega (arith, below w) in
    let r : (v : ℕ) × ((f v ≡ v) × (v ≤ w)) = fixed_below f rises (suc w) w (omega arith) low in
    let s : (u : ℕ) × ((solution f limit ≡ Some u) × (u ≤ r.0)) = solution_finds f limit r.0 (omega arith) r.1.0 in
    (s.0, (s.1.0, omega arith))

-- n is at most its ceiling's multiple
pub ceiling_covers : (n d : ℕ) → 1 ≤ d → n ≤ ceiling n d * d
ceiling_covers n d pos = omega (arith, lt-mul-div-succ (n + (d - 1)) {b = d} pos)

pub ceiling_rises : (m n d : ℕ) → 1 ≤ d → m ≤ n → ceiling m d ≤ ceiling n d
ceiling_rises m n d pos h = (le-div_iff_mul-le pos).1 (omega (arith, div-mul-le_self (m + (d - 1)) d))
