-- The search for a solution finds the smallest one, so the worst responses are the smallest that solve their equations and fit.
use Rattle.std.proofs.Common.{◌≡◌, ℕ, ◌+◌, ◌<◌, ◌≤◌, Bool, true, false, cond, eqb, ◌⊎◌, List, Some, None, Option, refl, ap, ◌∙◌, inl, inr, add-zero, arith}
use Rattle.std.proofs.lemmas.Bool.{cases_lt, eqb-true}
use Rattle.service.specs.declared.Record.{Record}
use Rattle.service.specs.Rows.{row}
use Rattle.bounds.specs.Numbers.{solution, Smallest, NoneUpTo}
use Rattle.bounds.specs.Equations.{fitting, plus, processor_step, bus_step}
use Rattle.bounds.specs.Stands.{WorstsAreSmallest, ProcessorWorstIs, BusWorstIs}
use Rattle.bounds.proofs.Solutions.{solution_is, solution_finds}
use Rattle.bounds.proofs.Ranges.{fitting_is, fitting_fits, BusSolves, bus_solves}

-- a smallest solution up to the limit is found
pub solution_smallest : (step : ℕ → ℕ) (limit n : ℕ) → Smallest step n → n ≤ limit → solution step limit ≡ Some n
solution_smallest step limit n s h =
    let f : (u : ℕ) × ((solution step limit ≡ Some u) × (u ≤ n)) = solution_finds step limit n h s.stays in
    let u : ℕ = f.0 in
    let fixed = solution_is step limit u f.1.0 in
    let same : u ≡ n = omega (arith, s.under u fixed.0, f.1.1) in
    f.1.0 ∙ ap Some same

-- what is found is the smallest
pub solution_is_smallest : (step : ℕ → ℕ) (limit n : ℕ) → solution step limit ≡ Some n → Smallest step n
solution_is_smallest step limit n e = record { stays = is.0; under = under }
  where
    is : (step n ≡ n) × (n ≤ limit)
    is = solution_is step limit n e

    under : (k : ℕ) → step k ≡ k → n ≤ k
    under k fixed = go (cases_lt k n)
      where
        go : (k < n) ⊎ (n ≤ k) → n ≤ k
        go (inr high) = high
        go (inl low) =
            let f : (u : ℕ) × ((solution step limit ≡ Some u) × (u ≤ k)) = solution_finds step limit k (omega (arith, is.1)) fixed in
            let found : solution step limit ≡ Some f.0 = f.1.0 in
            let same : n ≡ f.0 = cc in
            omega (arith, f.1.1)

-- nothing is found where there is none
pub solution_none : (step : ℕ → ℕ) (limit : ℕ) → NoneUpTo step limit → solution step limit ≡ None
solution_none step limit none = go (solution step limit) refl
  where
    go : (o : Option ℕ) → solution step limit ≡ o → solution step limit ≡ None
    go None e = e
    go (Some w) e = let is = solution_is step limit w e in absurd (none w is.1 is.0)

pub none_found : (step : ℕ → ℕ) (limit : ℕ) → solution step limit ≡ None → NoneUpTo step limit
none_found step limit e k h fixed =
    let f : (u : ℕ) × ((solution step limit ≡ Some u) × (u ≤ k)) = solution_finds step limit k h fixed in
    let found : solution step limit ≡ Some f.0 = f.1.0 in
    let z : ◌≡◌ {A = ℕ} 0 1 = cc in
    omega arith

-- a solution and what comes after it, where they fit
module _ (r : Record) (step : ℕ → ℕ) (after : ℕ) where
  pub fitting_smallest : (n : ℕ) → Smallest step n → r.jitter + (n + after) ≤ r.period → fitting r (plus after (solution step r.period)) ≡ Some (n + after)
  fitting_smallest n s fits = rw (solution_smallest step r.period n s (omega arith)) (fitting_fits r (n + after) fits)

  pub fitting_none : ((v : ℕ) → step v ≡ v → r.period < r.jitter + (v + after)) → fitting r (plus after (solution step r.period)) ≡ None
  fitting_none none = go (fitting r (plus after (solution step r.period))) refl (solution step r.period) refl
    where
      go : (o : Option ℕ) → fitting r (plus after (solution step r.period)) ≡ o → (q : Option ℕ) → solution step r.period ≡ q
          → fitting r (plus after (solution step r.period)) ≡ None
      go None e q s = e
      go (Some w) e None s = let e' : fitting r (plus after None) ≡ Some w = rw s at e in let z : ◌≡◌ {A = ℕ} 0 1 = cc in absurd (omega arith)
      go (Some w) e (Some v) s =
          let e' : fitting r (Some (v + after)) ≡ Some w = rw s at e in
          let f = fitting_is r (Some (v + after)) w e' in
          let same : v + after ≡ w = cc f.0 in
          absurd (omega (arith, f.1, none v (solution_is step r.period v s).0))

  pub none_fits : fitting r (plus after (solution step r.period)) ≡ None → (v : ℕ) → step v ≡ v → r.period < r.jitter + (v + after)
  none_fits e v fixed = go (cases_lt r.period (r.jitter + (v + after)))
    where
      go : (r.period < r.jitter + (v + after)) ⊎ (r.jitter + (v + after) ≤ r.period) → r.period < r.jitter + (v + after)
      go (inl over) = over
      go (inr fits) =
          let f : (u : ℕ) × ((solution step r.period ≡ Some u) × (u ≤ v)) = solution_finds step r.period v (omega arith) fixed in
          let some : fitting r (plus after (solution step r.period)) ≡ Some (f.0 + after) = rw f.1.0 (fitting_fits r (f.0 + after) (omega (arith, f.1.1))) in
          let z : ◌≡◌ {A = ℕ} 0 1 = cc in
          absurd (omega arith)

-- nothing after it
pub plus_none : (o : Option ℕ) → plus 0 o ≡ o
plus_none None = refl
plus_none (Some w) = ap Some (add-zero w)

processor_is : (rs : List Record) (p : ℕ) → ProcessorWorstIs rs p
processor_is rs p = record {
  some = λ w e. let f = fitting_is (row rs p) (solution (processor_step rs p) (row rs p).period) w e in (solution_is_smallest (processor_step rs p) (row rs p).period w f.0, f.1);
  none = λ e v fixed.
      omega (arith, none_fits (row rs p) (processor_step rs p) 0 (rw (plus_none (solution (processor_step rs p) (row rs p).period)) e) v fixed);
}

bus_is : (bit : ℕ) (rs : List Record) (p : ℕ) → BusWorstIs bit rs p
bus_is bit rs p = record {
  some = λ w e.
      let b : BusSolves bit rs p w = bus_solves bit rs p w e in
      (b.wait, (b.bit_low, solution_is_smallest (bus_step bit rs p) (row rs p).period b.wait b.found, b.total, b.fits));
  none = none (eqb bit 0) refl;
}
  where
    none : (b : Bool) → eqb bit 0 ≡ b → cond b None (fitting (row rs p) (plus (row rs p).greatest (solution (bus_step bit rs p) (row rs p).period))) ≡ None
        → (bit ≡ 0) ⊎ ((v : ℕ) → bus_step bit rs p v ≡ v → (row rs p).period < (row rs p).jitter + (v + (row rs p).greatest))
    none true h e = inl (eqb-true bit 0 h)
    none false h e = inr (none_fits (row rs p) (bus_step bit rs p) (row rs p).greatest e)

pub worsts_are_smallest : WorstsAreSmallest
worsts_are_smallest = (processor_is, bus_is)
