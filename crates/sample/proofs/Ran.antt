-- The jobs of the run: each is served from its begin to its end without a break.
use Rattle.std.proofs.Common.{◌≡◌, ℕ, zero, suc, ◌+◌, ◌-◌, ◌<◌, ◌≤◌, min, Bool, true, false, cond, ◌&&◌, ◌||◌, eqb, ltb, leb, ◌⊎◌, [], ◌∷◌, Some, None, sym, refl, ap, ◌∙◌, inl, inr, ⊎_elim, arith}
use Rattle.std.proofs.lemmas.Bool.{and_parts, and_from, or_cases, eqb-true, leb-true, ltb-true, le-leb, lt-leb, lt-ltb, le-ltb, cases_lt, false≢true}
use Rattle.service.specs.declared.Record.{Record}
use Rattle.service.specs.Traces.{Trace, had, Ready, Finishes, Orderly}
use Rattle.bounds.specs.Runs.{Within, Processor, Bus}
use Rattle.items.specs.declared.Item.{Item}
use Rattle.items.specs.Items.{item_at}
use Rattle.sample.specs.Plan.{begins, ends, arrives, run}

pub arrival : (n a : ℕ) → arrives n a ≡ true → (a ≡ 0) ⊎ (a ≡ 200)
arrival n a e =
    ⊎_elim
    (λ z. inl (eqb-true a 0 z))
    (λ z. inr (eqb-true a 200 z))
    (or_cases (eqb a 0) (eqb a 200) (and_parts (leb 1 n && leb n 3) (eqb a 0 || eqb a 200) e).1)

spread : (n : ℕ) → (begins n < ends n) × (ends n ≤ 59)
spread n = go (eqb n 1) (eqb n 2)
  where
    go : (b c : Bool) → (cond b 1 (cond c 4 54) < cond b 4 (cond c 54 59)) × (cond b 4 (cond c 54 59) ≤ 59)
    go true c = (omega arith, omega arith)
    go false true = (omega arith, omega arith)
    go false false = (omega arith, omega arith)

counted : (s e t : ℕ) → s ≤ e → (min t e - s) + cond (leb s t && ltb t e) 1 0 ≡ min (suc t) e - s
counted s e t h =
    ⊎_elim
    (λ soon. rw (lt-leb s t soon) (omega arith))
    (λ begun. ⊎_elim (λ before. rw (le-leb s t begun, lt-ltb t e before) (omega arith)) (λ over. rw (le-leb s t begun, le-ltb t e over) (omega arith)) (cases_lt t e))
    (cases_lt t s)

-- a tick in which a job is served
pub record Serving (n a t : ℕ) : Type 0 where
  pub arrived : arrives n a ≡ true
  pub begun : a + begins n ≤ t
  pub before : t < a + ends n

pub serving : (n a t : ℕ) → run.serves n a t ≡ true → Serving n a t
serving n a t e =
    let here = and_parts (arrives n a) (leb (a + begins n) t && ltb t (a + ends n)) e in
    let both = and_parts (leb (a + begins n) t) (ltb t (a + ends n)) here.1 in
    record { arrived = here.0; begun = leb-true (a + begins n) t both.0; before = ltb-true t (a + ends n) both.1 }

pub served : (n a t : ℕ) → Serving n a t → run.serves n a t ≡ true
served n a t s =
    and_from (arrives n a) (leb (a + begins n) t && ltb t (a + ends n)) s.arrived
    (and_from (leb (a + begins n) t) (ltb t (a + ends n)) (le-leb (a + begins n) t s.begun) (lt-ltb t (a + ends n) s.before))

had_run : (n a t : ℕ) → arrives n a ≡ true → had run n a t ≡ min t (a + ends n) - (a + begins n)
had_run n a zero here = omega arith
had_run n a (suc t) here =
    ap (λ (u : ℕ). u + cond (run.serves n a t) 1 0) (had_run n a t here)
    ∙ (ap (λ (b : Bool). (min t (a + ends n) - (a + begins n)) + cond (b && (leb (a + begins n) t && ltb t (a + ends n))) 1 0) here
    ∙ counted (a + begins n) (a + ends n) t (omega (arith, spread n)))

pub released : (n a : ℕ) → arrives n a ≡ true → run.release n a ≡ Some (a + begins n)
released n a here = ap (λ (b : Bool). cond b (Some (a + begins n)) None) here

pub release_is : (n a r : ℕ) → run.release n a ≡ Some r → (arrives n a ≡ true) × (r ≡ a + begins n)
release_is n a r e = go (arrives n a) refl e
  where
    go : (b : Bool) → arrives n a ≡ b → cond b (Some (a + begins n)) None ≡ Some r → (arrives n a ≡ true) × (r ≡ a + begins n)
    go true is e = (is, cc)
    go false is e = let z : ◌≡◌ {A = ℕ} 0 1 = cc in absurd (omega arith)

pub ready_serving : (n a t : ℕ) → Ready run n a t → Serving n a t
ready_serving n a t r =
    let at = release_is n a r.at r.released in
    let had = had_run n a t r.arrived in
    let wide = spread n in
    record { arrived = r.arrived; begun = omega (arith, at.1, r.by); before = omega (arith, r.unfinished) }

pub serving_ready : (n a t : ℕ) → Serving n a t → Ready run n a t
serving_ready n a t s =
    let had = had_run n a t s.arrived in
    record { arrived = s.arrived; at = a + begins n; released = released n a s.arrived; by = s.begun; unfinished = omega arith }

pub finishes : (n a : ℕ) → arrives n a ≡ true → Finishes run n a (a + ends n)
finishes n a here =
    let wide = spread n in
    record {
      arrived = here;
      last = a + ends n - 1;
      next = omega arith;
      served = served n a (a + ends n - 1) (record { arrived = here; begun = omega arith; before = omega arith });
      all = had_run n a (a + ends n) here ∙ omega arith;
    }

pub finish_is : (n a f : ℕ) → Finishes run n a f → (arrives n a ≡ true) × (f ≡ a + ends n)
finish_is n a f h =
    let s = serving n a h.last h.served in
    let had = had_run n a f h.arrived in
    let wide = spread n in
    (h.arrived, omega (arith, h.all, h.next))

-- what a resource sees that has one item only
abbrev pub alone : Item → Trace
alone x = record {
  ticks = run.ticks;
  arrives = λ p a. run.arrives (item_at (x ∷ []) p).number a;
  release = λ p a. run.release (item_at (x ∷ []) p).number a;
  demand = λ p a. run.demand (item_at (x ∷ []) p).number a;
  serves = λ p a t. run.serves (item_at (x ∷ []) p).number a t;
}

module _ (x : Item) where
  had_alone : (a t : ℕ) → had (alone x) 0 a t ≡ had run x.number a t
  had_alone a zero = refl
  had_alone a (suc t) = ap (λ (u : ℕ). u + cond (run.serves x.number a t) 1 0) (had_alone a t)

  ready_alone : (a t : ℕ) → Ready run x.number a t → Ready (alone x) 0 a t
  ready_alone a t r = let had = had_alone a t in record { arrived = r.arrived; at = r.at; released = r.released; by = r.by; unfinished = omega (arith, r.unfinished) }

  alone_ready : (a t : ℕ) → Ready (alone x) 0 a t → Ready run x.number a t
  alone_ready a t r = let had = had_alone a t in record { arrived = r.arrived; at = r.at; released = r.released; by = r.by; unfinished = omega (arith, r.unfinished) }

  lasts : (n a t : ℕ) → Serving n a t → t < 400
  lasts n a t s = let wide = spread n in ⊎_elim (λ z. omega arith) (λ z. omega arith) (arrival n a s.arrived)

  -- two jobs of one item are never served together
  apart : (n a b t : ℕ) → Serving n a t → Serving n b t → a ≡ b
  apart n a b t s u =
      let wide = spread n in
      ⊎_elim
      (λ y. ⊎_elim (λ z. omega arith) (λ z. absurd (omega arith)) (arrival n b u.arrived))
      (λ y. ⊎_elim (λ z. absurd (omega arith)) (λ z. omega arith) (arrival n b u.arrived))
      (arrival n a s.arrived)

  pub orderly : Orderly 1 (alone x)
  orderly = record { ready = ready; one = one }
    where
      ready : (p a t : ℕ) → (alone x).serves p a t ≡ true → (p < 1) × (t < 400) × Ready (alone x) p a t
      ready zero a t e = let s = serving x.number a t e in (omega arith, lasts x.number a t s, ready_alone a t (serving_ready x.number a t s))
      ready (suc p) a t e = absurd (false≢true e)

      one : (p a q b t : ℕ) → (alone x).serves p a t ≡ true → (alone x).serves q b t ≡ true → (p ≡ q) × (a ≡ b)
      one zero a zero b t e f = (refl, apart x.number a b t (serving x.number a t e) (serving x.number b t f))
      one zero a (suc q) b t e f = absurd (false≢true f)
      one (suc p) a q b t e f = absurd (false≢true e)

  -- a ready job is served
  serves_ready : (p a t : ℕ) → p < 1 → Ready (alone x) p a t → (alone x).serves p a t ≡ true
  serves_ready zero a t h r = served x.number a t (ready_serving x.number a t (alone_ready a t r))
  serves_ready (suc p) a t h r = absurd (omega arith)

  module _ (row : Record) (fits : (row.least ≤ ends x.number - begins x.number) × (ends x.number - begins x.number ≤ row.greatest)) where
    within : Within (row ∷ []) (alone x)
    within zero a h here = fits
    within (suc p) a h here = absurd (omega arith)

    pub processor : Processor (row ∷ []) (alone x)
    processor = record { within = within; chooses = λ p a t h l r. (p, (a, (serves_ready p a t h r, inr (refl, omega arith)))) }

    pub bus : Bus (row ∷ []) (alone x)
    bus = record {
      within = within;
      keeps = λ p a t h l r begun. serves_ready p a t h r;
      chooses = λ p a t h l r. (p, (a, (serves_ready p a t h r, inr (inr (refl, omega arith)))));
    }

-- a job begins when that of another item ends
pub link : (m n : ℕ) → ((a : ℕ) → arrives m a ≡ arrives n a) → ends m ≡ begins n → (a r : ℕ) → (Finishes run m a r → run.release n a ≡ Some r) × (run.release n a ≡ Some r → Finishes run m a r)
link m n same meet a r = (forth, back)
  where
    forth : Finishes run m a r → run.release n a ≡ Some r
    forth h =
        let f = finish_is m a r h in
        let e : a + begins n ≡ r = omega (arith, f.1) in
        released n a (sym (same a) ∙ f.0) ∙ ap Some e

    back : run.release n a ≡ Some r → Finishes run m a r
    back h =
        let s = release_is n a r h in
        let e : a + ends m ≡ r = omega (arith, s.1) in
        rw e at (finishes m a (same a ∙ s.0))
