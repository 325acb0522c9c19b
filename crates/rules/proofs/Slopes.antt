-- What every solution of a demand's equation holds: each higher row once, and as much as their slopes come to.
use Rattle.std.proofs.Common.{◌≡◌, ℕ, zero, suc, ◌+◌, ◌-◌, ◌*◌, ◌/◌, ◌<◌, ◌≤◌, Bool, true, false, cond, ltb, List, [], ◌∷◌, length, sym, refl, ap, ◌∙◌, mul_assoc, suc-mul, mul_comm, mul-le-mul, le-div_iff_mul-le, mul-add, div-mul-le_self, mul-div_cancel, arith}
use native.Mathlib.Nat.{lt-mul-div-succ, le_of_mul-le-mul_left, div-le_of_le-mul}
use Rattle.std.proofs.lemmas.Bool.{ltb-true}
use Rattle.service.specs.declared.Record.{Record}
use Rattle.service.specs.Rows.{row, Fit}
use Rattle.bounds.specs.Numbers.{ceiling, Under}
use Rattle.bounds.specs.Equations.{asks, summed, above}
use Rattle.bounds.proofs.Solutions.{ceiling_covers}
use Rattle.bounds.proofs.Sums.{summed_below}
use Rattle.rules.specs.declared.demand.Demand.{Demand}
use Rattle.rules.specs.Demands.{demanded, once, steep, slopes, Full, RisesBy}

-- a row asks at least once in a stretch that is not empty
asks_once : (more n : ℕ) (r : Record) → 1 ≤ r.period → 1 ≤ n → r.greatest ≤ asks more n r
asks_once more n r low h = go (ceiling (n + r.jitter + more) r.period) (ceiling_covers (n + r.jitter + more) r.period low)
  where
    go : (c : ℕ) → n + r.jitter + more ≤ c * r.period → r.greatest ≤ c * r.greatest
    go zero covers = absurd (omega arith)
    go (suc c) covers = omega (arith, suc-mul c r.greatest)

-- so every solution holds the base and each higher row once
pub once_under : (d : Demand) (rs : List Record) → Fit rs → Under (demanded d rs) (once d rs)
once_under d rs each k fixed =
    omega (
      arith,
      fixed,
      d.base_low,
      summed_below (λ r. r.greatest) (asks d.more k) d.priority rs (λ q h. asks_once d.more k (row rs q) (each q h).period_low (omega (arith, fixed, d.base_low))),
    )

rises_by : (more n : ℕ) (r : Record) → 1 ≤ r.period → n * steep r ≤ 4294967296 * asks more n r
rises_by more n r low =
    let s : ℕ = steep r in
    let k : ℕ = ceiling (n + r.jitter + more) r.period in
    let covers : n + r.jitter + more ≤ k * r.period = ceiling_covers (n + r.jitter + more) r.period low in
    let under : s * r.period ≤ r.greatest * 4294967296 = div-mul-le_self (r.greatest * 4294967296) r.period in
    let first : n * s ≤ (k * r.period) * s = mul-le-mul (omega arith) (omega arith) in
    let second : k * (s * r.period) ≤ k * (r.greatest * 4294967296) = mul-le-mul (omega arith) under in
    omega (arith, first, second, mul_assoc k r.period s, mul_comm r.period s, mul_assoc k r.greatest 4294967296)

pub slopes_rise : (more n priority : ℕ) (rs : List Record) → Fit rs → n * summed steep priority rs ≤ 4294967296 * above priority more n rs
slopes_rise more n priority [] each = omega arith
slopes_rise more n priority (r ∷ rs) each =
    go (slopes_rise more n priority rs (λ q h. each (suc q) (omega arith))) (rises_by more n r (each 0 (omega arith)).period_low) (ltb r.priority priority)
  where
    go : n * summed steep priority rs ≤ 4294967296 * above priority more n rs → n * steep r ≤ 4294967296 * asks more n r
        → (b : Bool) → n * (cond b (steep r) 0 + summed steep priority rs) ≤ 4294967296 * (cond b (asks more n r) 0 + above priority more n rs)
    go rest one true = omega (arith, mul-add n (steep r) (summed steep priority rs))
    go rest one false = omega (arith, mul-add n 0 (summed steep priority rs))

-- so every solution holds the base over what the slopes leave free
pub slope_under : (d : Demand) (s : ℕ) (rs : List Record) → RisesBy d rs s → s < 4294967296 → Under (demanded d rs) (d.base * 4294967296 / (4294967296 - s))
slope_under d s rs rising small k fixed =
    let free : ℕ = 4294967296 - s in
    let whole : free + s ≡ 4294967296 = omega arith in
    let split : k * (free + s) ≡ k * free + k * s = mul-add k free s in
    div-le_of_le-mul free (omega (arith, fixed, rising k, split, mul_comm free k, ap (λ m. k * m) whole))

-- over a multiple of its period a row asks for no more than its slope comes to, and one part a tick
filled_by : (n k : ℕ) (r : Record) → 1 ≤ r.period → n ≡ k * r.period → 4294967296 * (n / r.period * r.greatest) ≤ n * steep r + n
filled_by n k r low is =
    let t : ℕ = r.period in
    let g : ℕ = r.greatest in
    let s : ℕ = steep r in
    let jobs : n / t ≡ k = ap (λ m. m / t) is ∙ mul-div_cancel k low in
    let over : g * 4294967296 < t * (s + 1) = lt-mul-div-succ (g * 4294967296) low in
    let scaled : k * (g * 4294967296) ≤ k * (t * (s + 1)) = mul-le-mul (omega arith) (omega arith) in
    let moved : k * (t * (s + 1)) ≡ n * (s + 1) = sym (mul_assoc k t (s + 1)) ∙ ap (λ m. m * (s + 1)) (sym is) in
    let spread : n * (s + 1) ≡ n * s + n * 1 = mul-add n s 1 in
    rw jobs (omega (arith, scaled, moved, spread, mul_assoc k g 4294967296))

all_filled_by : (n priority : ℕ) (rs : List Record) → Fit rs → ((q : ℕ) → q < length rs → (row rs q).priority < priority → (k : ℕ) × (n ≡ k * (row rs q).period))
    → 4294967296 * summed (λ r. n / r.period * r.greatest) priority rs ≤ n * summed steep priority rs + n * length rs
all_filled_by n priority [] each whole = omega arith
all_filled_by n priority (r ∷ rs) each whole =
    go (all_filled_by n priority rs (λ q h. each (suc q) (omega arith)) (λ q h high. whole (suc q) (omega arith) high)) (ltb r.priority priority) refl
  where
    go : 4294967296 * summed (λ r. n / r.period * r.greatest) priority rs ≤ n * summed steep priority rs + n * length rs → (b : Bool) → ltb r.priority priority ≡ b
        → 4294967296 * (cond b (n / r.period * r.greatest) 0 + summed (λ r. n / r.period * r.greatest) priority rs)
        ≤ n * (cond b (steep r) 0 + summed steep priority rs) + n * suc (length rs)
    go rest true high =
        let k = whole 0 (omega arith) (ltb-true _ _ high) in
        omega (
          arith,
          filled_by n k.0 r (each 0 (omega arith)).period_low k.1,
          mul-add n (steep r) (summed steep priority rs),
          mul-add n 1 (length rs),
          mul-add 4294967296 (n / r.period * r.greatest) (summed (λ r. n / r.period * r.greatest) priority rs),
        )
    go rest false low = omega (arith, mul-add n 0 (summed steep priority rs), mul-add n 1 (length rs))

-- where the higher rows fill the resource their slopes leave next to nothing
pub full_slopes : (d : Demand) (rs : List Record) → Fit rs → length rs ≤ 256 → Full d rs → 4294967296 ≤ slopes d rs + 256
full_slopes d rs each few full =
    let n : ℕ = full.stretch in
    let filled : 4294967296 * n ≤ n * slopes d rs + n * length rs = omega (arith, all_filled_by n d.priority rs each full.whole, full.filled) in
    let most : n * length rs ≤ n * 256 = mul-le-mul (omega arith) few in
    let joined : n * (slopes d rs + 256) ≡ n * slopes d rs + n * 256 = mul-add n (slopes d rs) 256 in
    le_of_mul-le-mul_left (omega (arith, filled, most, joined, mul_comm n 4294967296)) full.some

-- so the start over what they leave free lies beyond every period
pub full_beyond : (base s : ℕ) → 1 ≤ base → s < 4294967296 → 4294967296 ≤ s + 256 → 10000000 < base * 4294967296 / (4294967296 - s)
full_beyond base s low small full = (le-div_iff_mul-le (omega arith)).1 (omega arith)
