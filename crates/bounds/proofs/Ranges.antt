-- The numbers of the response equations are in range.
use Rattle.std.proofs.Common.{◌≡◌, ℕ, ◌+◌, ◌≤◌, Bool, true, false, cond, eqb, leb, List, Some, None, Option, sym, refl, arith}
use Rattle.std.proofs.lemmas.Bool.{leb-true, eqb-false, le-leb}
use Rattle.service.specs.declared.Record.{Record}
use Rattle.service.specs.Rows.{row, IsRow}
use Rattle.service.specs.Laws.{Ranged}
use Rattle.bounds.specs.Numbers.{solution}
use Rattle.bounds.specs.Equations.{processor_step, bus_step, fitting, plus, processor_worst, bus_worst, least_demand}
use Rattle.bounds.proofs.Solutions.{solution_is}

pub fitting_is : (r : Record) (o : Option ℕ) (w : ℕ) → fitting r o ≡ Some w → (o ≡ Some w) × (r.jitter + w ≤ r.period)
fitting_is r None w e = let z : ◌≡◌ {A = ℕ} 0 1 = cc in absurd (omega arith)
fitting_is r (Some v) w e = go (leb (r.jitter + v) r.period) refl e
  where
    go : (b : Bool) → leb (r.jitter + v) r.period ≡ b → cond b (Some v) None ≡ Some w → (Some v ≡ Some w) × (r.jitter + w ≤ r.period)
    go true h k = let same : v ≡ w = cc in (k, omega (arith, leb-true _ _ h))
    go false h k = let z : ◌≡◌ {A = ℕ} 0 1 = cc in absurd (omega arith)

pub fitting_fits : (r : Record) (w : ℕ) → r.jitter + w ≤ r.period → fitting r (Some w) ≡ Some w
fitting_fits r w h = let yes' : leb (r.jitter + w) r.period ≡ true = le-leb _ _ h in rw yes'

plus_is : (n : ℕ) (o : Option ℕ) (w : ℕ) → plus n o ≡ Some w → (v : ℕ) × ((o ≡ Some v) × (w ≡ v + n))
plus_is n None w e = let z : ◌≡◌ {A = ℕ} 0 1 = cc in absurd (omega arith)
plus_is n (Some v) w e = (v, (refl, let same : v + n ≡ w = cc in sym same))

-- a worst response on a processor solves its equation and fits
pub processor_solves : (rs : List Record) (p w : ℕ) → processor_worst rs p ≡ Some w → (processor_step rs p w ≡ w) × ((row rs p).jitter + w ≤ (row rs p).period)
processor_solves rs p w e =
    let f : (solution (processor_step rs p) (row rs p).period ≡ Some w) × ((row rs p).jitter + w ≤ (row rs p).period) = fitting_is (row rs p) _ w e in
    ((solution_is (processor_step rs p) (row rs p).period w f.0).0, f.1)

-- a worst response on a bus is a solution of its equation and the frame itself, and fits
pub record BusSolves (bit : ℕ) (rs : List Record) (p w : ℕ) : Type 0 where
  pub bit_low : 1 ≤ bit
  pub wait : ℕ
  pub found : solution (bus_step bit rs p) (row rs p).period ≡ Some wait
  pub solves : bus_step bit rs p wait ≡ wait
  pub total : w ≡ wait + (row rs p).greatest
  pub fits : (row rs p).jitter + w ≤ (row rs p).period

pub bus_solves : (bit : ℕ) (rs : List Record) (p w : ℕ) → bus_worst bit rs p ≡ Some w → BusSolves bit rs p w
bus_solves bit rs p w e = go (eqb bit 0) refl e
  where
    go : (b : Bool) → eqb bit 0 ≡ b → cond b None (fitting (row rs p) (plus (row rs p).greatest (solution (bus_step bit rs p) (row rs p).period))) ≡ Some w
        → BusSolves bit rs p w
    go true h k = let z : ◌≡◌ {A = ℕ} 0 1 = cc in absurd (omega arith)
    go false h k =
        let f = fitting_is (row rs p) (plus (row rs p).greatest (solution (bus_step bit rs p) (row rs p).period)) w k in
        let g = plus_is (row rs p).greatest (solution (bus_step bit rs p) (row rs p).period) w f.0 in
        let positive : bit ≡ 0 → ⊥ = eqb-false _ _ h in
        record {
          bit_low = omega arith;
          wait = g.0;
          found = g.1.0;
          solves = (solution_is (bus_step bit rs p) (row rs p).period g.0 g.1.0).0;
          total = g.1.1;
          fits = f.1;
        }

pub processor_ranged : Ranged least_demand processor_worst
processor_ranged rs rows p place =
    let r : IsRow (row rs p) = rows.each p place in
    (omega arith, λ w e. omega (arith, processor_solves rs p w e, r.least_high))

pub bus_ranged : (bit : ℕ) → Ranged least_demand (bus_worst bit)
bus_ranged bit rs rows p place =
    let r : IsRow (row rs p) = rows.each p place in
    (omega arith, λ w e. let b : BusSolves bit rs p w = bus_solves bit rs p w e in omega (arith, b.total, b.fits, r.least_high))
