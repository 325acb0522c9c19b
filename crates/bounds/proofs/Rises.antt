-- More jitter never lowers a worst response, and never turns none into a number.
use Rattle.std.proofs.Common.{◌≡◌, ℕ, ◌+◌, ◌<◌, ◌≤◌, false, eqb, List, length, Some, arith}
use Rattle.std.proofs.lemmas.Bool.{ne_eqb}
use Rattle.service.specs.declared.Record.{Record}
use Rattle.service.specs.Rows.{row, Rows, Looser}
use Rattle.service.specs.Laws.{Rising}
use Rattle.bounds.specs.Numbers.{solution}
use Rattle.bounds.specs.Equations.{processor_step, bus_step, processor_worst, bus_worst, least_demand}
use Rattle.bounds.proofs.Solutions.{solution_rises}
use Rattle.bounds.proofs.Sums.{Loosens, above_rises, above_grows, longest_same}
use Rattle.bounds.proofs.Ranges.{fitting_is, fitting_fits, BusSolves, bus_solves}

module _ (rs ss : List Record) (rows : Rows rs) (l : Looser rs ss) where
  loosens : (q : ℕ) → q < length rs → Loosens (row rs q) (row ss q)
  loosens q h = record {
    same_priority = l.same_priority q h;
    same_period = l.same_period q h;
    same_greatest = l.same_greatest q h;
    jitter = l.jitter q h;
    period_low = (rows.each q h).period_low;
  }

  fits_both : (p w v : ℕ) → p < length rs → (row ss p).jitter + w ≤ (row ss p).period → v ≤ w → (row rs p).jitter + v ≤ (row rs p).period
  fits_both p w v h fits below = omega (arith, l.jitter p h, l.same_period p h)

pub processor_rising : Rising least_demand processor_worst
processor_rising rs ss rows rows' l p place = (
  l.same_least p place,
  λ w e.
      let f = fitting_is (row ss p) (solution (processor_step ss p) (row ss p).period) w e in
      let g = solution_rises (processor_step rs p) (processor_step ss p) rises below (row ss p).period w f.0 in
      let found : solution (processor_step rs p) (row rs p).period ≡ Some g.0 = rw (l.same_period p place) g.1.0 in
      (g.0, (rw found (fitting_fits (row rs p) g.0 (fits_both rs ss rows l p w g.0 place f.1 g.1.1)), g.1.1)),
)
  where
    rises : (m n : ℕ) → m ≤ n → processor_step rs p m ≤ processor_step rs p n
    rises m n h = omega (arith, above_grows (row rs p).priority 0 rs rows.each m n h)

    below : (n : ℕ) → processor_step rs p n ≤ processor_step ss p n
    below n =
        rw (← l.same_priority p place)
        (omega (arith, l.same_greatest p place, above_rises (row rs p).priority 0 n n rs ss l.same_length (loosens rs ss rows l) (omega arith)))

pub bus_rising : (bit : ℕ) → Rising least_demand (bus_worst bit)
bus_rising bit rs ss rows rows' l p place = (
  l.same_least p place,
  λ w e.
      let b : BusSolves bit ss p w = bus_solves bit ss p w e in
      let g = solution_rises (bus_step bit rs p) (bus_step bit ss p) rises below (row ss p).period b.wait b.found in
      let found : solution (bus_step bit rs p) (row rs p).period ≡ Some g.0 = rw (l.same_period p place) g.1.0 in
      let test : eqb bit 0 ≡ false = ne_eqb bit 0 (omega (arith, b.bit_low)) in
      let total : g.0 + (row rs p).greatest ≤ w = omega (arith, b.total, g.1.1, l.same_greatest p place) in
      (g.0 + (row rs p).greatest, (rw (test, found) (fitting_fits (row rs p) (g.0 + (row rs p).greatest) (fits_both rs ss rows l p w (g.0 + (row rs p).greatest) place b.fits total)), total)),
)
  where
    rises : (m n : ℕ) → m ≤ n → bus_step bit rs p m ≤ bus_step bit rs p n
    rises m n h = omega (arith, above_grows (row rs p).priority bit rs rows.each m n h)

    below : (n : ℕ) → bus_step bit rs p n ≤ bus_step bit ss p n
    below n =
        rw (← l.same_priority p place)
        (omega (arith, longest_same (row rs p).priority rs ss l.same_length (loosens rs ss rows l), above_rises (row rs p).priority bit n n rs ss l.same_length (loosens rs ss rows l) (omega arith)))
