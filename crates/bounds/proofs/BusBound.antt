-- A frame on a bus is finished at most its worst response after its release window closes.
use Rattle.std.proofs.Common.{◌≡◌, ℕ, zero, suc, ◌+◌, ◌-◌, ◌<◌, ◌≤◌, Bool, true, false, ◌&&◌, ◌||◌, ltb, leb, ◌⊎◌, List, length, Some, sym, refl, subst, subst₂, inl, inr, arith}
use Rattle.std.proofs.lemmas.Bool.{both_ways, cases_Bool, cases_lt, cases_eq, and_from, and_parts, or_cases, or_left, or_right, lt-ltb, ltb-true, le-leb, leb-true}
use Rattle.service.specs.declared.Record.{Record}
use Rattle.service.specs.Rows.{row, IsRow}
use Rattle.service.specs.Traces.{Trace, Ready, Done, had}
use Rattle.service.specs.Laws.{closes, Bounded}
use Rattle.bounds.specs.Equations.{above, longest, bus_step, bus_worst}
use Rattle.bounds.specs.Runs.{First, Bus}
use Rattle.bounds.proofs.Tallies.{any, any_from, any_find, tally, tally_none, Start, start_of}
use Rattle.bounds.proofs.Sums.{longest_covers}
use Rattle.bounds.proofs.Jobs.{had_tally, had_rises, had_served, had_unserved, had_asked, had_since}
use Rattle.bounds.proofs.Ranges.{BusSolves, bus_solves}
use Rattle.bounds.proofs.Stretches.{Run, Served, served, Above, Idle, counted}
use Rattle.bounds.proofs.Earlier.{by_earlier, Meets, earlier_done}

-- whether a tick serves a job that passes a test
abbrev serves_some : List Record → Trace → (ℕ → ℕ → Bool) → ℕ → Bool
serves_some rs x f i = any (λ q. any (λ b. x.serves q b i && f q b) (suc i)) (length rs)

-- the frame was begun before tick i, or its row is above the priority
abbrev urgent : List Record → Trace → ℕ → ℕ → ℕ → ℕ → Bool
urgent rs x priority i q b = ltb 0 (had x q b i) || ltb (row rs q).priority priority

-- whether a tick serves an urgent frame
abbrev goes_on : List Record → Trace → ℕ → ℕ → Bool
goes_on rs x priority i = serves_some rs x (urgent rs x priority i) i

-- whether a tick serves a frame that is not above the priority
abbrev serves_low : List Record → Trace → ℕ → ℕ → Bool
serves_low rs x priority i = serves_some rs x (λ q b. leb priority (row rs q).priority) i

-- a job that a tick serves
abbrev Someone : Trace → ℕ → Type 0
Someone x i = (q : ℕ) × ((b : ℕ) × (x.serves q b i ≡ true))

some_find : (rs : List Record) (x : Trace) (f : ℕ → ℕ → Bool) (i : ℕ) → serves_some rs x f i ≡ true
    → (q : ℕ) × ((b : ℕ) × ((q < length rs) × (x.serves q b i ≡ true) × (f q b ≡ true)))
some_find rs x f i e =
    let q = any_find (λ q. any (λ b. x.serves q b i && f q b) (suc i)) (length rs) e in
    let b = any_find (λ b. x.serves q.0 b i && f q.0 b) (suc i) q.1.1 in
    let both = and_parts _ _ b.1.1 in
    (q.0, (b.0, (q.1.0, both.0, both.1)))

module _ (rs : List Record) (x : Trace) (ahead : ℕ → ℕ) (t : ℕ) (run : Run rs x ahead t) (allowed : Bus rs x) where
  some_from : (f : ℕ → ℕ → Bool) (q b i : ℕ) → i ≤ t → x.serves q b i ≡ true → f q b ≡ true → serves_some rs x f i ≡ true
  some_from f q b i early s e =
      let v : Served rs x ahead q b i = served rs x ahead t run q b i early s in
      any_from (λ p. any (λ c. x.serves p c i && f p c) (suc i)) (length rs) q v.place
      (any_from (λ c. x.serves q c i && f q c) (suc i) b (omega (arith, v.opened, v.by)) (and_from _ _ s e))

  goes_on_from : (priority q b i : ℕ) → i ≤ t → x.serves q b i ≡ true → (0 < had x q b i) ⊎ ((row rs q).priority < priority) → goes_on rs x priority i ≡ true
  goes_on_from priority q b i early s (inl begun) = some_from (urgent rs x priority i) q b i early s (or_left _ _ (lt-ltb _ _ begun))
  goes_on_from priority q b i early s (inr high) = some_from (urgent rs x priority i) q b i early s (or_right _ _ (lt-ltb _ _ high))

  -- from s on, where the tick before serves no urgent frame; up to e, before which no frame begins that is not above the priority
  module _ (priority s e : ℕ) (early : e ≤ t + 1) (lasts : e ≤ x.ticks) (order : s ≤ e) (breaks : (j : ℕ) → s ≡ suc j → goes_on rs x priority j ≡ false)
      (none_begins : (q b i : ℕ) → s ≤ i → i < e → priority ≤ (row rs q).priority → x.serves q b i ≡ true → had x q b i ≡ 0 → ⊥) where
    -- in a tick that serves no urgent frame no higher row is ready
    idle : Idle rs x priority s
    idle j q b next place high ready =
        let c = allowed.chooses q b j place (omega arith) ready in
        let urgent' : (0 < had x c.0 c.1.0 j) ⊎ ((row rs c.0).priority < priority) = elim c.1.1.1 [
          | inl begun ↦ inl begun
          | inr first ↦ inr (elim first [ inl less ↦ omega arith | inr own ↦ subst (λ (p : ℕ). (row rs p).priority < priority) (sym own.0) high ])
        ] in
        both_ways (goes_on rs x priority j) (breaks j next) (goes_on_from priority c.0 c.1.0 j (omega arith) c.1.1.0 urgent')

    -- a frame that is not above the priority was begun before s
    begun_before : (q b i : ℕ) → s ≤ i → i < e → priority ≤ (row rs q).priority → x.serves q b i ≡ true → 0 < had x q b s
    begun_before q b i low high under s-i = go (cases_lt 0 (had x q b s))
      where
        stays : (k : ℕ) → had x q b s ≡ 0 → s + k ≤ i → had x q b (s + k) ≡ 0
        stays zero z l = let same : s + 0 ≡ s = omega arith in rw same z
        stays (suc k) z l = let next : s + suc k ≡ suc (s + k) = omega arith in rw next (one (stays k z (omega arith)) (cases_Bool (x.serves q b (s + k))))
          where
            one : had x q b (s + k) ≡ 0 → (x.serves q b (s + k) ≡ true) ⊎ (x.serves q b (s + k) ≡ false) → had x q b (suc (s + k)) ≡ 0
            one ih (inl begins) = absurd (none_begins q b (s + k) (omega arith) (omega arith) under begins ih)
            one ih (inr waits) = omega (arith, had_unserved x q b (s + k) waits)

        go : (0 < had x q b s) ⊎ (had x q b s ≤ 0) → 0 < had x q b s
        go (inl begun) = begun
        go (inr z) =
            let same : s + (i - s) ≡ i = omega arith in
            let none : had x q b (s + (i - s)) ≡ 0 = stays (i - s) (omega arith) (omega arith) in
            absurd (none_begins q b i low high under s-i (subst (λ (k : ℕ). had x q b k ≡ 0) same none))

    -- so it is served in the tick before s
    served_before : (q b i j : ℕ) → s ≡ suc j → s ≤ i → i < e → priority ≤ (row rs q).priority → x.serves q b i ≡ true → x.serves q b j ≡ true
    served_before q b i j next low high under s-i = go (cases_lt 0 (had x q b j)) (cases_Bool (x.serves q b j))
      where
        v : Served rs x ahead q b i
        v = served rs x ahead t run q b i (omega arith) s-i

        go : (0 < had x q b j) ⊎ (had x q b j ≤ 0) → (x.serves q b j ≡ true) ⊎ (x.serves q b j ≡ false) → x.serves q b j ≡ true
        go c (inl s-j) = s-j
        go (inl begun) (inr not-j) =
            let since : had x q b j ≤ j - v.at = had_since (length rs) x run.orderly q b v.at j v.released in
            allowed.keeps q b j v.place (omega arith) (record {
              arrived = v.arrived;
              at = v.at;
              released = v.released;
              by = omega arith;
              unfinished = omega (arith, had_rises x q b j i (omega arith), v.unfinished);
            }) begun
        go (inr none) (inr not-j) =
            absurd (omega (arith, subst (λ (k : ℕ). 0 < had x q b k) next (begun_before q b i low high under s-i), had_unserved x q b j not-j))

    -- a test that passes in each tick that serves a frame not above the priority, and in few
    record Blocker : Type 0 where
      other : ℕ → Bool
      few : tally other e ≤ longest priority rs
      blocks : (q b i : ℕ) → s ≤ i → i < e → priority ≤ (row rs q).priority → x.serves q b i ≡ true → other i ≡ true

    blocker : Blocker
    blocker = at s refl
      where
        nothing : tally (λ _. false) e ≤ longest priority rs
        nothing = omega (arith, tally_none (λ _. false) e (λ _ _. refl))

        at : (k : ℕ) → s ≡ k → Blocker
        at zero z = record {
          other = λ _. false;
          few = nothing;
          blocks = λ q b i low high under s-i. absurd (omega (arith, subst (λ (k : ℕ). 0 < had x q b k) z (begun_before q b i low high under s-i)));
        }
        at (suc j) next = found (cases_Bool (serves_low rs x priority j))
          where
            found : (serves_low rs x priority j ≡ true) ⊎ (serves_low rs x priority j ≡ false) → Blocker
            found (inl some) =
                let f = some_find rs x (λ q b. leb priority (row rs q).priority) j some in
                let q₀ : ℕ = f.0 in
                let b₀ : ℕ = f.1.0 in
                let arrived : x.arrives q₀ b₀ ≡ true = (run.orderly.ready q₀ b₀ j f.1.1.1).2.arrived in
                record {
                  other = x.serves q₀ b₀;
                  few =
                      omega (
                        arith,
                        had_tally x q₀ b₀ e,
                        had_asked (length rs) x run.orderly q₀ b₀ e,
                        run.within q₀ b₀ f.1.1.0 arrived,
                        longest_covers priority rs q₀ f.1.1.0 (leb-true _ _ f.1.1.2),
                      );
                  blocks = λ q b i low high under s-i.
                      let same = run.orderly.one q b q₀ b₀ j (served_before q b i j next low high under s-i) f.1.1.1 in
                      subst₂ (λ (p c : ℕ). x.serves p c i ≡ true) same.0 same.1 s-i;
                }
            found (inr none) = record {
              other = λ _. false;
              few = nothing;
              blocks = λ q b i low high under s-i.
                  absurd (both_ways _ none
                  (some_from (λ p c. leb priority (row rs p).priority) q b j (omega arith) (served_before q b i j next low high under s-i) (le-leb _ _ under)));
            }

    -- so others cannot take all of that stretch
    crowded : (more w : ℕ) → 1 ≤ more → e ≡ s + (w + 1) → longest priority rs + above priority more w rs ≡ w → ((i : ℕ) → s ≤ i → i < e → Someone x i) → ⊥
    crowded more w low-more is-e solves someone = go blocker
      where
        go : Blocker → ⊥
        go k =
            omega (
              arith,
              solves,
              subst (λ (n : ℕ). tally k.other n ≤ longest priority rs) is-e k.few,
              counted rs x ahead t run priority more w s (w + 1) k.other idle (omega arith) (omega arith) (λ i low high. each i low (omega arith) (someone i low (omega arith))),
            )
          where
            each : (i : ℕ) → s ≤ i → i < e → Someone x i → Above rs x priority i ⊎ (k.other i ≡ true)
            each i low high o = by (cases_lt (row rs o.0).priority priority)
              where
                by : ((row rs o.0).priority < priority) ⊎ (priority ≤ (row rs o.0).priority) → Above rs x priority i ⊎ (k.other i ≡ true)
                by (inl over) = inl (record { place = o.0; arrival = o.1.0; served = o.1.1; high = over })
                by (inr under) = inr (k.blocks o.0 o.1.0 i low high under o.1.1)

  -- a frame once begun runs to its end
  runs_on : (m a r u k : ℕ) → m < length rs → x.arrives m a ≡ true → x.release m a ≡ Some r → u + k ≤ x.ticks → 0 < had x m a u
      → (x.demand m a ≤ had x m a (u + k)) ⊎ (suc k ≤ had x m a (u + k))
  runs_on m a r u zero place arrived released lasts begun = let same : u + 0 ≡ u = omega arith in inr (rw same begun)
  runs_on m a r u (suc k) place arrived released lasts begun =
      let next : u + suc k ≡ suc (u + k) = omega arith in
      rw next (go (runs_on m a r u k place arrived released (omega arith) begun) (cases_lt (had x m a (u + k)) (x.demand m a)))
    where
      go : (x.demand m a ≤ had x m a (u + k)) ⊎ (suc k ≤ had x m a (u + k)) → (had x m a (u + k) < x.demand m a) ⊎ (x.demand m a ≤ had x m a (u + k))
          → (x.demand m a ≤ had x m a (suc (u + k))) ⊎ (suc (suc k) ≤ had x m a (suc (u + k)))
      go ran (inr done) = inl (omega (arith, had_rises x m a (u + k) (suc (u + k)) (omega arith)))
      go (inl done) (inl unfinished) = absurd (omega arith)
      go (inr ran) (inl unfinished) =
          let since : had x m a (u + k) ≤ (u + k) - r = had_since (length rs) x run.orderly m a r (u + k) released in
          let ready : Ready x m a (u + k) = record { arrived = arrived; at = r; released = released; by = omega arith; unfinished = unfinished } in
          inr (omega (arith, had_served x m a (u + k) (allowed.keeps m a (u + k) place (omega arith) ready (omega arith))))

  module _ (m bit wait : ℕ) (place : m < length rs) (low_bit : 1 ≤ bit) (solves : bus_step bit rs m wait ≡ wait)
      (fits : (row rs m).jitter + (wait + (row rs m).greatest) ≤ (row rs m).period) where
    -- a released frame begins at most `wait` ticks after the start of its stretch
    module _ (a r : ℕ) (arrived : x.arrives m a ≡ true) (earlier : (c : ℕ) → c < a → Meets rs x ahead t m (wait + (row rs m).greatest) c)
        (released : x.release m a ≡ Some r) (open_by : a + ahead m ≤ r) (st : Start (goes_on rs x (row rs m).priority) r)
        (early : st.start + (wait + 1) ≤ t + 1) (lasts : st.start + (wait + 1) ≤ x.ticks) (unbegun : had x m a (st.start + (wait + 1)) ≤ 0) where
      ready : (i : ℕ) → r ≤ i → i < st.start + (wait + 1) → Ready x m a i
      ready i late high = record {
        arrived = arrived;
        at = r;
        released = released;
        by = late;
        unfinished = omega (arith, had_rises x m a i (st.start + (wait + 1)) (omega arith), run.within m a place arrived, (run.rows.each m place).least_low);
      }

      someone : (i : ℕ) → st.start ≤ i → i < st.start + (wait + 1) → Someone x i
      someone i low high = go (cases_lt i r)
        where
          go : (i < r) ⊎ (r ≤ i) → Someone x i
          go (inl before) = let f = some_find rs x (urgent rs x (row rs m).priority i) i (st.holds i low before) in (f.0, (f.1.0, f.1.1.1))
          go (inr after) = let c = allowed.chooses m a i place (omega arith) (ready i after high) in (c.0, (c.1.0, c.1.1.0))

      none_begins : (q b i : ℕ) → st.start ≤ i → i < st.start + (wait + 1) → (row rs m).priority ≤ (row rs q).priority → x.serves q b i ≡ true → had x q b i ≡ 0 → ⊥
      none_begins q b i low high under s-i none = go (cases_lt i r)
        where
          go : (i < r) ⊎ (r ≤ i) → ⊥
          go (inl before) =
              let f = some_find rs x (urgent rs x (row rs m).priority i) i (st.holds i low before) in
              let same = run.orderly.one f.0 f.1.0 q b i f.1.1.1 s-i in
              let urgent' : urgent rs x (row rs m).priority i q b ≡ true =
              subst₂ (λ (p c : ℕ). urgent rs x (row rs m).priority i p c ≡ true) same.0 same.1 f.1.1.2 in
              elim (or_cases (ltb 0 (had x q b i)) (ltb (row rs q).priority (row rs m).priority) urgent')
              [ inl begun ↦ omega (arith, ltb-true 0 (had x q b i) begun) | inr over ↦ omega (arith, ltb-true (row rs q).priority (row rs m).priority over) ]
          go (inr after) = by c.1.1.1
            where
              c : (p : ℕ) × ((d : ℕ) × ((x.serves p d i ≡ true) × ((0 < had x p d i) ⊎ First rs p d m a)))
              c = allowed.chooses m a i place (omega arith) (ready i after high)

              same : (c.0 ≡ q) × (c.1.0 ≡ b)
              same = run.orderly.one c.0 c.1.0 q b i c.1.1.0 s-i

              by : (0 < had x c.0 c.1.0 i) ⊎ First rs c.0 c.1.0 m a → ⊥
              by (inl begun) = omega (arith, subst₂ (λ (p d : ℕ). 0 < had x p d i) same.0 same.1 begun)
              by (inr (inl less)) = omega (arith, subst (λ (p : ℕ). (row rs p).priority < (row rs m).priority) same.0 less)
              by (inr (inr own)) = which (cases_eq c.1.0 a)
                where
                  own_served : x.serves m c.1.0 i ≡ true
                  own_served = subst (λ (p : ℕ). x.serves p c.1.0 i ≡ true) own.0 c.1.1.0

                  which : (c.1.0 ≡ a) ⊎ (c.1.0 ≡ a → ⊥) → ⊥
                  which (inl is-a) =
                      omega (
                        arith,
                        had_served x m a i (subst (λ (d : ℕ). x.serves m d i ≡ true) is-a own_served),
                        had_rises x m a (suc i) (st.start + (wait + 1)) high,
                      )
                  which (inr not_a) =
                      earlier_done rs x ahead t run m (wait + (row rs m).greatest) place fits a c.1.0 i arrived earlier (omega (arith, own.1)) (omega arith) (omega arith) own_served

      must_begin : ⊥
      must_begin =
          crowded (row rs m).priority st.start (st.start + (wait + 1)) early lasts (omega arith) st.breaks none_begins bit wait low_bit refl solves someone

    meets : (a : ℕ) → ((c : ℕ) → c < a → Meets rs x ahead t m (wait + (row rs m).greatest) c) → Meets rs x ahead t m (wait + (row rs m).greatest) a
    meets a earlier arrived in-time lasts = go (cases_lt 0 (had x m a (st.start + (wait + 1))))
      where
        is_row : IsRow (row rs m)
        is_row = run.rows.each m place

        low_g : 1 ≤ (row rs m).greatest
        low_g = omega (arith, is_row.least_low, is_row.least_high)

        release : (r : ℕ) × ((x.release m a ≡ Some r) × (r ≤ closes rs ahead m a))
        release = run.on_time.present m a place arrived (omega (arith, low_g))

        open_by : a + ahead m ≤ release.0
        open_by = (run.on_time.inside m a release.0 place arrived release.1.0 (omega (arith, release.1.1, low_g))).0

        st : Start (goes_on rs x (row rs m).priority) release.0
        st = start_of (goes_on rs x (row rs m).priority) release.0

        ends : st.start + (wait + 1) + ((row rs m).greatest - 1) ≤ closes rs ahead m a + (wait + (row rs m).greatest)
        ends = omega (arith, st.early, release.1.1, low_g)

        go : (0 < had x m a (st.start + (wait + 1))) ⊎ (had x m a (st.start + (wait + 1)) ≤ 0) → Done x m a (closes rs ahead m a + (wait + (row rs m).greatest))
        go (inl begun) =
            let ran = runs_on m a release.0 (st.start + (wait + 1)) ((row rs m).greatest - 1) place arrived release.1.0 (omega (arith, ends)) begun in
            omega (arith, ran, low_g, run.within m a place arrived, had_rises x m a (st.start + (wait + 1) + ((row rs m).greatest - 1)) (closes rs ahead m a + (wait + (row rs m).greatest)) ends)
        go (inr unbegun) = absurd (must_begin a release.0 arrived earlier release.1.0 open_by st (omega (arith, ends)) (omega (arith, ends)) unbegun)

pub bus_bounded : (bit : ℕ) → Bounded Bus (bus_worst bit)
bus_bounded bit rs x ahead t p a w rows orderly allowed on_time place arrived worst in-time lasts =
    let b : BusSolves bit rs p w = bus_solves bit rs p w worst in
    let run : Run rs x ahead t = record { rows = rows; orderly = orderly; within = allowed.within; on_time = on_time } in
    let worst_is : b.wait + (row rs p).greatest ≡ w = sym b.total in
    subst (λ (n : ℕ). Done x p a (closes rs ahead p a + n)) worst_is
    (by_earlier (Meets rs x ahead t p (b.wait + (row rs p).greatest)) (meets rs x ahead t run allowed p bit b.wait place b.bit_low b.solves (omega (arith, b.fits)))
    a arrived (omega arith) (omega arith))
