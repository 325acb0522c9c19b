-- What the bound assumes can be met: one row, one job, served at once.
use Rattle.std.proofs.Common.{◌≡◌, ℕ, zero, suc, ◌+◌, ◌<◌, ◌≤◌, Bool, true, ◌&&◌, eqb, List, [], ◌∷◌, length, Some, sym, refl, subst, inl, inr, arith}
use Rattle.std.proofs.lemmas.Bool.{and_parts, and_from, eqb-true, eq-eqb, cases_lt}
use Rattle.service.specs.declared.Record.{Record}
use Rattle.service.specs.Rows.{row, Rows, IsRow}
use Rattle.service.specs.Traces.{Trace, Ready, Done, Orderly, had}
use Rattle.service.specs.Laws.{OnTime, closes}
use Rattle.bounds.specs.Numbers.{solution_from}
use Rattle.bounds.specs.Runs.{Within, Processor, Bus}
use Rattle.bounds.proofs.Jobs.{had_rises}
use Rattle.bounds.proofs.ProcessorBound.{processor_bounded}
use Rattle.bounds.proofs.BusBound.{bus_bounded}

abbrev rs : List Record
rs = record { priority = 1; period = 10; jitter = 3; least = 1; greatest = 2 } ∷ []

-- the row's job arrives at 4, is released at 6 and served at 6
abbrev job : ℕ → ℕ → Bool
job p a = eqb p 0 && eqb a 4

abbrev x : Trace
x = record { ticks = 20; arrives = job; release = λ _ _. Some 6; demand = λ _ _. 1; serves = λ p a t. job p a && eqb t 6 }

the_job : (p a : ℕ) → job p a ≡ true → (p ≡ 0) × (a ≡ 4)
the_job p a e = let both = and_parts (eqb p 0) (eqb a 4) e in (eqb-true p 0 both.0, eqb-true a 4 both.1)

the_tick : (p a t : ℕ) → x.serves p a t ≡ true → (p ≡ 0) × (a ≡ 4) × (t ≡ 6)
the_tick p a t e =
    let both = and_parts (job p a) (eqb t 6) e in
    let j = the_job p a both.0 in
    (j.0, j.1, eqb-true t 6 both.1)

rows : Rows rs
rows = record { each = each; apart = λ p q l l' _. omega arith }
  where
    each : (p : ℕ) → p < length rs → IsRow (row rs p)
    each zero l = record { period_low = omega arith; period_high = omega arith; jitter_high = omega arith; least_low = omega arith; least_high = omega arith; greatest_high = omega arith }
    each (suc p) l = absurd (omega arith)

on_time : (t : ℕ) → OnTime rs x (λ _. 1) t
on_time t = record {
  spaced = λ p a b l e e' less _. absurd (omega (arith, (the_job p a e).1, (the_job p b e').1));
  inside = inside;
  present = present;
}
  where
    inside : (p a r : ℕ) → p < length rs → x.arrives p a ≡ true → x.release p a ≡ Some r → r ≤ t → (a + 1 ≤ r) × (r ≤ closes rs (λ _. 1) p a)
    inside zero a r l e released h = let is : 6 ≡ r = cc in omega (arith, is, (the_job 0 a e).1)
    inside (suc p) a r l e released h = absurd (omega arith)

    present : (p a : ℕ) → p < length rs → x.arrives p a ≡ true → closes rs (λ _. 1) p a ≤ t → (r : ℕ) × ((x.release p a ≡ Some r) × (r ≤ closes rs (λ _. 1) p a))
    present zero a l e h = (6, (refl, omega (arith, (the_job 0 a e).1)))
    present (suc p) a l e h = absurd (omega arith)

-- the job is ready in tick 6 alone, and is served in it
ready_then : (p a t : ℕ) → Ready x p a t → (p ≡ 0) × (a ≡ 4) × (t ≡ 6)
ready_then p a t r =
    let j = the_job p a r.arrived in
    let released : Some 6 ≡ Some r.at = r.released in
    let is : 6 ≡ r.at = cc in
    let unfinished : had x 0 4 t < 1 = subst (λ (b : ℕ). had x 0 b t < 1) j.1 (subst (λ (q : ℕ). had x q a t < 1) j.0 r.unfinished) in
    (j.0, j.1, omega (arith, r.by, at_most_once t unfinished))
  where
    at_most_once : (t : ℕ) → had x 0 4 t < 1 → t < 7
    at_most_once t few = elim (cases_lt t 7)
        [ inl less ↦ less | inr more ↦ absurd (omega (arith, had_rises x 0 4 7 t more)) ]

serves_then : (p a t : ℕ) → (p ≡ 0) × (a ≡ 4) × (t ≡ 6) → x.serves p a t ≡ true
serves_then p a t h = and_from (job p a) (eqb t 6) (and_from (eqb p 0) (eqb a 4) (eq-eqb p 0 h.0) (eq-eqb a 4 h.1)) (eq-eqb t 6 h.2)

orderly : Orderly (length rs) x
orderly = record { ready = ready; one = λ p a q b t e e'. omega (arith, the_tick p a t e, the_tick q b t e') }
  where
    ready : (p a t : ℕ) → x.serves p a t ≡ true → (p < length rs) × (t < 20) × Ready x p a t
    ready p a t e =
        let h = the_tick p a t e in (
          omega (arith, h.0),
          omega (arith, h.2),
          record {
            arrived = (and_parts (job p a) (eqb t 6) e).0;
            at = 6;
            released = refl;
            by = omega (arith, h.2);
            unfinished =
                subst (λ (k : ℕ). had x p a k < 1) (sym h.2)
                (subst (λ (b : ℕ). had x p b 6 < 1) (sym h.1) (subst (λ (q : ℕ). had x q 4 6 < 1) (sym h.0) (omega arith)));
          },
        )

within : Within rs x
within zero a l e = omega arith
within (suc p) a l e = absurd (omega arith)

processor : Processor rs x
processor = record { within = within; chooses = λ p a t l lasts r. (p, (a, (serves_then p a t (ready_then p a t r), inr (refl, omega arith)))) }

bus : Bus rs x
bus = record {
  within = within;
  keeps = λ p a t l lasts r begun. serves_then p a t (ready_then p a t r);
  chooses = λ p a t l lasts r. (p, (a, (serves_then p a t (ready_then p a t r), inr (inr (refl, omega arith)))));
}

-- its worst response is 2 on a processor and 4 on a bus; its window closes at 8
processor_done : Done x 0 4 10
unfolding solution_from
processor_done = processor_bounded rs x (λ _. 1) 9 0 4 2 rows orderly processor (on_time 9) (omega arith) refl refl (omega arith) (omega arith)

bus_done : Done x 0 4 12
unfolding solution_from
bus_done = bus_bounded 1 rs x (λ _. 1) 11 0 4 4 rows orderly bus (on_time 11) (omega arith) refl refl (omega arith) (omega arith)
