-- A job on a processor is finished at most its worst response after its release window closes.
use Rattle.std.proofs.Common.{◌≡◌, ℕ, suc, ◌+◌, ◌<◌, ◌≤◌, Bool, true, false, ◌⊎◌, List, length, Some, sym, subst, inl, inr, arith}
use Rattle.std.proofs.lemmas.Bool.{both_ways, cases_lt, cases_eq}
use Rattle.service.specs.declared.Record.{Record}
use Rattle.service.specs.Rows.{row, IsRow}
use Rattle.service.specs.Traces.{Trace, Ready, Done, had}
use Rattle.service.specs.Laws.{closes, Bounded}
use Rattle.bounds.specs.Equations.{processor_step, processor_worst}
use Rattle.bounds.specs.Runs.{First, Processor}
use Rattle.bounds.proofs.Tallies.{any, any_from, any_find, Start, start_of}
use Rattle.bounds.proofs.Sums.{higher, higher_from, higher_find}
use Rattle.bounds.proofs.Jobs.{had_tally, had_rises}
use Rattle.bounds.proofs.Ranges.{processor_solves}
use Rattle.bounds.proofs.Stretches.{Run, Served, served, Above, Idle, counted}
use Rattle.bounds.proofs.Earlier.{by_earlier, Meets, earlier_done}

-- whether a tick serves a row above the priority
abbrev busy : List Record → Trace → ℕ → ℕ → Bool
busy rs x priority i = higher priority rs (λ q. any (λ b. x.serves q b i) (suc i))

busy_find : (rs : List Record) (x : Trace) (priority i : ℕ) → busy rs x priority i ≡ true → Above rs x priority i
busy_find rs x priority i e =
    let q = higher_find priority rs (λ p. any (λ c. x.serves p c i) (suc i)) e in
    let b = any_find (λ c. x.serves q.0 c i) (suc i) q.1.2 in
    record { place = q.0; arrival = b.0; served = b.1.1; high = q.1.1 }

module _ (rs : List Record) (x : Trace) (ahead : ℕ → ℕ) (t : ℕ) (run : Run rs x ahead t) (allowed : Processor rs x) where
  busy_from : (priority q b i : ℕ) → i ≤ t → x.serves q b i ≡ true → (row rs q).priority < priority → busy rs x priority i ≡ true
  busy_from priority q b i early s high =
      let v : Served rs x ahead q b i = served rs x ahead t run q b i early s in
      higher_from priority rs (λ p. any (λ c. x.serves p c i) (suc i)) q v.place high (any_from (λ c. x.serves q c i) (suc i) b (omega (arith, v.opened, v.by)) s)

  -- in a tick that serves no higher row none is ready
  idle : (priority s : ℕ) → s ≤ t + 1 → s ≤ x.ticks → ((j : ℕ) → s ≡ suc j → busy rs x priority j ≡ false) → Idle rs x priority s
  idle priority s early lasts breaks j q b next place high ready =
      let c = allowed.chooses q b j place (omega arith) ready in
      let high' : (row rs c.0).priority < priority = elim c.1.1.1
      [ inl less ↦ omega arith | inr own ↦ subst (λ (p : ℕ). (row rs p).priority < priority) (sym own.0) high ] in
      both_ways (busy rs x priority j) (breaks j next) (busy_from priority c.0 c.1.0 j (omega arith) c.1.1.0 high')

  module _ (m w : ℕ) (place : m < length rs) (solves : processor_step rs m w ≡ w) (fits : (row rs m).jitter + w ≤ (row rs m).period) where
    -- a job that is not done takes the ticks that no higher row takes
    module _ (a r : ℕ) (arrived : x.arrives m a ≡ true) (earlier : (c : ℕ) → c < a → Meets rs x ahead t m w c) (released : x.release m a ≡ Some r)
        (open_by : a + ahead m ≤ r) (st : Start (busy rs x (row rs m).priority) r) (early : st.start + w ≤ t + 1) (lasts : st.start + w ≤ x.ticks)
        (unfinished : had x m a (st.start + w) < x.demand m a) where
      each : (i : ℕ) → st.start ≤ i → i < st.start + w → Above rs x (row rs m).priority i ⊎ (x.serves m a i ≡ true)
      each i low high = go (cases_lt i r)
        where
          go : (i < r) ⊎ (r ≤ i) → Above rs x (row rs m).priority i ⊎ (x.serves m a i ≡ true)
          go (inl before) = inl (busy_find rs x (row rs m).priority i (st.holds i low before))
          go (inr after) = by c.1.1.1
            where
              ready : Ready x m a i
              ready = record
                  { arrived = arrived; at = r; released = released; by = after; unfinished = omega (arith, had_rises x m a i (st.start + w) (omega arith)) }

              c : (q : ℕ) × ((b : ℕ) × ((x.serves q b i ≡ true) × First rs q b m a))
              c = allowed.chooses m a i place (omega arith) ready

              by : First rs c.0 c.1.0 m a → Above rs x (row rs m).priority i ⊎ (x.serves m a i ≡ true)
              by (inl less) = inl (record { place = c.0; arrival = c.1.0; served = c.1.1.0; high = less })
              by (inr own) = which (cases_eq c.1.0 a)
                where
                  own_served : x.serves m c.1.0 i ≡ true
                  own_served = subst (λ (q : ℕ). x.serves q c.1.0 i ≡ true) own.0 c.1.1.0

                  which : (c.1.0 ≡ a) ⊎ (c.1.0 ≡ a → ⊥) → Above rs x (row rs m).priority i ⊎ (x.serves m a i ≡ true)
                  which (inl is-a) = inr (subst (λ (b : ℕ). x.serves m b i ≡ true) is-a own_served)
                  which (inr not_a) =
                      absurd (earlier_done rs x ahead t run m w place fits a c.1.0 i arrived earlier (omega (arith, own.1)) (omega arith) (omega arith) own_served)

      -- there are too few of those
      must_finish : ⊥
      must_finish =
          omega (
            arith,
            solves,
            counted rs x ahead t run (row rs m).priority 0 w st.start w (x.serves m a)
                (idle (row rs m).priority st.start (omega arith) (omega arith) st.breaks) (omega arith) early each,
            had_tally x m a (st.start + w),
            run.within m a place arrived,
          )

    meets : (a : ℕ) → ((c : ℕ) → c < a → Meets rs x ahead t m w c) → Meets rs x ahead t m w a
    meets a earlier arrived in-time lasts = go (cases_lt (had x m a (st.start + w)) (x.demand m a))
      where
        is_row : IsRow (row rs m)
        is_row = run.rows.each m place

        low_w : 1 ≤ w
        low_w = omega (arith, solves, is_row.least_low, is_row.least_high)

        release : (r : ℕ) × ((x.release m a ≡ Some r) × (r ≤ closes rs ahead m a))
        release = run.on_time.present m a place arrived (omega (arith, low_w))

        open_by : a + ahead m ≤ release.0
        open_by = (run.on_time.inside m a release.0 place arrived release.1.0 (omega (arith, release.1.1, low_w))).0

        st : Start (busy rs x (row rs m).priority) release.0
        st = start_of (busy rs x (row rs m).priority) release.0

        ends : st.start + w ≤ closes rs ahead m a + w
        ends = omega (arith, st.early, release.1.1)

        go : (had x m a (st.start + w) < x.demand m a) ⊎ (x.demand m a ≤ had x m a (st.start + w)) → Done x m a (closes rs ahead m a + w)
        go (inl unfinished) =
            absurd (must_finish a release.0 arrived earlier release.1.0 open_by st (omega (arith, ends)) (omega (arith, ends)) unfinished)
        go (inr done) = omega (arith, had_rises x m a (st.start + w) (closes rs ahead m a + w) ends)

pub processor_bounded : Bounded Processor processor_worst
processor_bounded rs x ahead t p a w rows orderly allowed on_time place arrived worst in-time lasts =
    let f = processor_solves rs p w worst in
    let run : Run rs x ahead t = record { rows = rows; orderly = orderly; within = allowed.within; on_time = on_time } in
    by_earlier (Meets rs x ahead t p w) (meets rs x ahead t run allowed p w place f.0 f.1) a arrived in-time lasts
