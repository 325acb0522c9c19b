-- What an orderly trace says of one job.
use Rattle.std.proofs.Common.{◌≡◌, ℕ, zero, suc, ◌+◌, ◌-◌, ◌<◌, ◌≤◌, true, false, cond, ◌⊎◌, List, length, Some, refl, ap, inl, inr, arith}
use Rattle.std.proofs.lemmas.Bool.{cases_Bool}
use Rattle.service.specs.declared.Record.{Record}
use Rattle.service.specs.Rows.{row, Rows}
use Rattle.service.specs.Traces.{Trace, Ready, Finishes, Orderly, had}
use Rattle.service.specs.Laws.{Patient}
use Rattle.bounds.specs.Equations.{least_demand}
use Rattle.bounds.specs.Runs.{Within, Processor, Bus}
use Rattle.bounds.proofs.Tallies.{tally, tally_rises}

pub had_tally : (x : Trace) (p a t : ℕ) → had x p a t ≡ tally (x.serves p a) t
had_tally x p a zero = refl
had_tally x p a (suc t) = ap (λ n. n + cond (x.serves p a t) 1 0) (had_tally x p a t)

pub had_rises : (x : Trace) (p a s e : ℕ) → s ≤ e → had x p a s ≤ had x p a e
had_rises x p a s e h = rw (had_tally x p a s, had_tally x p a e) (tally_rises (x.serves p a) s e h)

-- a served tick counts
pub had_served : (x : Trace) (p a t : ℕ) → x.serves p a t ≡ true → had x p a (suc t) ≡ suc (had x p a t)
had_served x p a t e = rw e (omega arith)

pub had_unserved : (x : Trace) (p a t : ℕ) → x.serves p a t ≡ false → had x p a (suc t) ≡ had x p a t
had_unserved x p a t e = rw e (omega arith)

module _ (n : ℕ) (x : Trace) (orderly : Orderly n x) where
  -- no job gets more than it asks for
  pub had_asked : (p a t : ℕ) → had x p a t ≤ x.demand p a
  had_asked p a zero = omega arith
  had_asked p a (suc t) = go (had_asked p a t) (cases_Bool (x.serves p a t))
    where
      go : had x p a t ≤ x.demand p a → (x.serves p a t ≡ true) ⊎ (x.serves p a t ≡ false) → had x p a (suc t) ≤ x.demand p a
      go ih (inl s) = omega (arith, had_served x p a t s, (orderly.ready p a t s).2.unfinished)
      go ih (inr s) = omega (arith, had_unserved x p a t s)

  -- no job is served before its release
  pub had_since : (p a r t : ℕ) → x.release p a ≡ Some r → had x p a t ≤ t - r
  had_since p a r zero e = omega arith
  had_since p a r (suc t) e = go (had_since p a r t e) (cases_Bool (x.serves p a t))
    where
      go : had x p a t ≤ t - r → (x.serves p a t ≡ true) ⊎ (x.serves p a t ≡ false) → had x p a (suc t) ≤ suc t - r
      go ih (inl s) =
          let ready : Ready x p a t = (orderly.ready p a t s).2 in
          let released : x.release p a ≡ Some ready.at = ready.released in
          let same : ready.at ≡ r = cc in
          omega (arith, had_served x p a t s, ready.by)
      go ih (inr s) = omega (arith, had_unserved x p a t s)

  -- a finished job was released its demand before, at least
  pub patient : (rs : List Record) → Rows rs → Within rs x → (p a r f : ℕ) → p < length rs → x.release p a ≡ Some r → Finishes x p a f → r + least_demand rs p ≤ f
  patient rs rows within p a r f place released finishes =
      let low : 1 ≤ (row rs p).least = (rows.each p place).least_low in
      omega (arith, within p a place finishes.arrived, had_since p a r f released, finishes.all)

pub processor_patient : Patient Processor least_demand
processor_patient rs x p a r f rows orderly allowed place released finishes =
    patient (length rs) x orderly rs rows allowed.within p a r f place released finishes

pub bus_patient : Patient Bus least_demand
bus_patient rs x p a r f rows orderly allowed place released finishes =
    patient (length rs) x orderly rs rows allowed.within p a r f place released finishes
