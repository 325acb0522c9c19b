-- What a trace has served: the count never falls, rises by at most one, and a job that has had all it asked for was finished at some tick.
use Rattle.std.proofs.Common.{◌≡◌, ℕ, zero, suc, ◌+◌, ◌-◌, ◌<◌, ◌≤◌, Bool, true, false, cond, List, sym, refl, ap, ◌∙◌, ap₂, ⊎_elim, add-zero, add-suc, arith}
use Rattle.std.proofs.lemmas.Bool.{cases_lt}
use Rattle.service.specs.Traces.{Trace, had, Ready, Done, Finishes}
use Rattle.items.specs.declared.Item.{Item}
use Rattle.items.specs.Items.{item_at}
use Rattle.tables.specs.Demands.{items_on}
use Rattle.tables.specs.Runs.{seen_on}

pub had_later : (x : Trace) (p a s d : ℕ) → had x p a s ≤ had x p a (s + d)
had_later x p a s zero = rw add-zero (omega arith)
had_later x p a s (suc d) = rw add-suc (let less = had_later x p a s d in omega arith)

pub had_rises : (x : Trace) (p a s t : ℕ) → s ≤ t → had x p a s ≤ had x p a t
had_rises x p a s t h =
    let e : s + (t - s) ≡ t = omega arith in
    rw e at (had_later x p a s (t - s))

-- a job that was finished by tick t
pub record Finished (x : Trace) (p a t : ℕ) : Type 0 where
  pub at : ℕ
  pub by : at ≤ t
  pub is : Finishes x p a at

-- the tick that brings a job to its demand finishes it
crossing : (x : Trace) (p a t : ℕ) → x.arrives p a ≡ true → had x p a t < x.demand p a → Done x p a (suc t) → Finishes x p a (suc t)
crossing x p a t here short done = go (x.serves p a t) refl
  where
    go : (b : Bool) → x.serves p a t ≡ b → Finishes x p a (suc t)
    go true e =
        let most : x.demand p a ≤ had x p a t + 1 = rw e at done in
        record { arrived = here; last = t; next = omega arith; served = e; all = rw e (omega arith) }
    go false e =
        let most : x.demand p a ≤ had x p a t + 0 = rw e at done in
        absurd (omega arith)

-- a job that is done by tick t, and asked for something, was finished by then
pub finished : (x : Trace) (p a t : ℕ) → x.arrives p a ≡ true → 1 ≤ x.demand p a → Done x p a t → Finished x p a t
finished x p a zero here some done = absurd (omega arith)
finished x p a (suc t) here some done =
    ⊎_elim
    (λ short. record { at = suc t; by = omega arith; is = crossing x p a t here short done })
    (λ all. let f = finished x p a t here some all in record { at = f.at; by = omega (arith, f.by); is = f.is })
    (cases_lt (had x p a t) (x.demand p a))

-- what a resource sees of a run, at a place that is an item's
module _ (xs : List Item) (r : ℕ) (run : Trace) (p n : ℕ) (is : (item_at (items_on r xs) p).number ≡ n) where
  pub had_seen : (a t : ℕ) → had (seen_on xs r run) p a t ≡ had run n a t
  had_seen a zero = refl
  had_seen a (suc t) = ap₂ (λ (u v : ℕ). u + v) (had_seen a t) (ap (λ (m : ℕ). cond (run.serves m a t) 1 0) is)

  pub finishes_seen : (a f : ℕ) → Finishes run n a f → Finishes (seen_on xs r run) p a f
  finishes_seen a f h =
      record { arrived = rw is h.arrived; last = h.last; next = h.next; served = rw is h.served; all = had_seen a f ∙ h.all ∙ sym (ap (λ (m : ℕ). run.demand m a) is) }

  pub done_unseen : (a t : ℕ) → Done (seen_on xs r run) p a t → Done run n a t
  done_unseen a t h = let e = had_seen a t in let d = ap (λ (m : ℕ). run.demand m a) is in omega arith

  pub ready_unseen : (a t : ℕ) → Ready (seen_on xs r run) p a t → Ready run n a t
  ready_unseen a t h =
      let e = had_seen a t in
      let d = ap (λ (m : ℕ). run.demand m a) is in
      record { arrived = rw is at h.arrived; at = h.at; released = rw is at h.released; by = h.by; unfinished = omega (arith, h.unfinished) }
