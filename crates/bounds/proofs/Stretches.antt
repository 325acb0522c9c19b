-- How many ticks of a stretch the rows above a priority can take.
use Rattle.std.proofs.Common.{◌≡◌, ℕ, zero, suc, ◌+◌, ◌-◌, ◌*◌, ◌<◌, ◌≤◌, Bool, true, false, ◌⊎◌, List, length, Some, subst, inl, inr, arith}
use Rattle.std.proofs.lemmas.Bool.{both_ways, cases_Bool, cases_lt, cases_order}
use Rattle.service.specs.declared.Record.{Record}
use Rattle.service.specs.Rows.{row, Rows}
use Rattle.service.specs.Traces.{Trace, Ready, Orderly, had}
use Rattle.service.specs.Laws.{OnTime}
use Rattle.bounds.specs.Numbers.{ceiling}
use Rattle.bounds.specs.Equations.{above}
use Rattle.bounds.specs.Runs.{Within}
use Rattle.bounds.proofs.Solutions.{ceiling_covers}
use Rattle.bounds.proofs.Tallies.{any, any_from, any_find, tally, tally_none, tally_within, tally_joins, tally_fills}
use Rattle.bounds.proofs.Sums.{higher, higher_from, above_covers}
use Rattle.bounds.proofs.Jobs.{had_tally, had_rises, had_asked}

-- what both rules know of a trace, up to tick t
pub record Run (rs : List Record) (x : Trace) (ahead : ℕ → ℕ) (t : ℕ) : Type 0 where
  pub rows : Rows rs
  pub orderly : Orderly (length rs) x
  pub within : Within rs x
  pub on_time : OnTime rs x ahead t

-- what is known of a job that a tick serves
pub record Served (rs : List Record) (x : Trace) (ahead : ℕ → ℕ) (q b i : ℕ) : Type 0 where
  pub place : q < length rs
  pub lasting : i < x.ticks
  pub arrived : x.arrives q b ≡ true
  pub at : ℕ
  pub released : x.release q b ≡ Some at
  pub by : at ≤ i
  pub unfinished : had x q b i < x.demand q b
  pub opened : b + ahead q ≤ at
  pub closed : at ≤ b + ahead q + (row rs q).jitter

-- whether a tick serves a job of a row that arrived in the n ticks from `from` on
abbrev pub grabs : Trace → ℕ → ℕ → ℕ → ℕ → Bool
grabs x q from n i = any (λ k. x.serves q (from + k) i) n

-- a tick serves a job of a row above the priority
pub record Above (rs : List Record) (x : Trace) (priority i : ℕ) : Type 0 where
  pub place : ℕ
  pub arrival : ℕ
  pub served : x.serves place arrival i ≡ true
  pub high : (row rs place).priority < priority

-- in the tick before s, if there is one, no job of a row above the priority is ready
abbrev pub Idle : List Record → Trace → ℕ → ℕ → Type 0
Idle rs x priority s = (j q b : ℕ) → s ≡ suc j → q < length rs → (row rs q).priority < priority → Ready x q b j → ⊥

module _ (rs : List Record) (x : Trace) (ahead : ℕ → ℕ) (t : ℕ) (run : Run rs x ahead t) where
  pub served : (q b i : ℕ) → i ≤ t → x.serves q b i ≡ true → Served rs x ahead q b i
  served q b i early s =
      let o = run.orderly.ready q b i s in
      let ready : Ready x q b i = o.2 in
      let window = run.on_time.inside q b ready.at o.0 ready.arrived ready.released (omega (arith, ready.by)) in
      record {
        place = o.0;
        lasting = o.1;
        arrived = ready.arrived;
        at = ready.at;
        released = ready.released;
        by = ready.by;
        unfinished = ready.unfinished;
        opened = window.0;
        closed = window.1;
      }

  -- two served jobs of a row less than a period apart are one
  same_job : (q b c i j : ℕ) → i ≤ t → j ≤ t → x.serves q b i ≡ true → x.serves q c j ≡ true → b < c + (row rs q).period → c < b + (row rs q).period → b ≡ c
  same_job q b c i j early early' s s' near near' = go (served q b i early s) (served q c j early' s') (cases_order b c)
    where
      go : Served rs x ahead q b i → Served rs x ahead q c j → (b ≡ c) ⊎ ((b < c) ⊎ (c < b)) → b ≡ c
      go v w (inl same) = same
      go v w (inr (inl less)) = absurd (omega (arith, run.on_time.spaced q b c v.place v.arrived w.arrived less (omega arith)))
      go v w (inr (inr more)) = absurd (omega (arith, run.on_time.spaced q c b v.place w.arrived v.arrived more (omega arith)))

  -- a period holds one job at most
  one_period : (q from e : ℕ) → q < length rs → e ≤ t + 1 → tally (grabs x q from (row rs q).period) e ≤ (row rs q).greatest
  one_period q from e place early = go (cases_Bool (any (grabs x q from (row rs q).period) e))
    where
      go : (any (grabs x q from (row rs q).period) e ≡ true) ⊎ (any (grabs x q from (row rs q).period) e ≡ false)
          → tally (grabs x q from (row rs q).period) e ≤ (row rs q).greatest
      go (inl some) =
          let f = any_find (grabs x q from (row rs q).period) e some in
          let k = any_find (λ k. x.serves q (from + k) f.0) (row rs q).period f.1.1 in
          let b : ℕ = from + k.0 in
          let v : Served rs x ahead q b f.0 = served q b f.0 (omega (arith, f.1.0)) k.1.1 in
          let each : (i : ℕ) → i < e → grabs x q from (row rs q).period i ≡ true → x.serves q b i ≡ true =
          λ i l g.
          let k' = any_find (λ k. x.serves q (from + k) i) (row rs q).period g in
          let same : from + k'.0 ≡ b =
          same_job q (from + k'.0) b i f.0 (omega arith) (omega (arith, f.1.0)) k'.1.1 k.1.1 (omega (arith, k'.1.0)) (omega (arith, k.1.0)) in
          subst (λ (c : ℕ). x.serves q c i ≡ true) same k'.1.1 in
          omega (
            arith,
            tally_within (grabs x q from (row rs q).period) (x.serves q b) e each,
            had_tally x q b e,
            had_asked (length rs) x run.orderly q b e,
            run.within q b place v.arrived,
          )
      go (inr none) =
          omega (
            arith,
            tally_none (grabs x q from (row rs q).period) e
                (λ i l. elim (cases_Bool (grabs x q from (row rs q).period i)) [ inl g ↦ absurd (both_ways _ none (any_from (grabs x q from (row rs q).period) e i l g)) | inr n ↦ n ]),
          )

  -- so many periods hold so many jobs at most
  periods : (q e c from : ℕ) → q < length rs → e ≤ t + 1 → tally (grabs x q from (c * (row rs q).period)) e ≤ c * (row rs q).greatest
  periods q e zero from place early =
      omega (
        arith,
        tally_none (grabs x q from (0 * (row rs q).period)) e
            (λ i l. elim (cases_Bool (grabs x q from (0 * (row rs q).period) i))
            [ inl g ↦ absurd (omega (arith, (any_find (λ k. x.serves q (from + k) i) (0 * (row rs q).period) g).1.0)) | inr n ↦ n ]),
      )
  periods q e (suc c) from place early =
      omega (
        arith,
        one_period q from e place early,
        periods q e c (from + (row rs q).period) place early,
        tally_joins (grabs x q from (suc c * (row rs q).period)) (grabs x q from (row rs q).period) (grabs x q (from + (row rs q).period) (c * (row rs q).period)) e
            (λ i l g. part i (any_find (λ k. x.serves q (from + k) i) (suc c * (row rs q).period) g)),
      )
    where
      part : (i : ℕ) → (k : ℕ) × ((k < suc c * (row rs q).period) × (x.serves q (from + k) i ≡ true))
          → (grabs x q from (row rs q).period i ≡ true) ⊎ (grabs x q (from + (row rs q).period) (c * (row rs q).period) i ≡ true)
      part i f = go (cases_lt f.0 (row rs q).period)
        where
          go : (f.0 < (row rs q).period) ⊎ ((row rs q).period ≤ f.0)
              → (grabs x q from (row rs q).period i ≡ true) ⊎ (grabs x q (from + (row rs q).period) (c * (row rs q).period) i ≡ true)
          go (inl first) = inl (any_from (λ k. x.serves q (from + k) i) (row rs q).period f.0 first f.1.1)
          go (inr later) =
              let same : from + f.0 ≡ from + (row rs q).period + (f.0 - (row rs q).period) = omega arith in
              inr (any_from (λ k. x.serves q (from + (row rs q).period + k) i) (c * (row rs q).period) (f.0 - (row rs q).period) (omega (arith, f.1.0))
              (subst (λ (b : ℕ). x.serves q b i ≡ true) same f.1.1))

  -- a stretch of n arrivals takes at most so many ticks
  stretch : (q e from n : ℕ) → q < length rs → e ≤ t + 1 → tally (grabs x q from n) e ≤ ceiling n (row rs q).period * (row rs q).greatest
  stretch q e from n place early =
      let covers : n ≤ ceiling n (row rs q).period * (row rs q).period = ceiling_covers n (row rs q).period (run.rows.each q place).period_low in
      omega (
        arith,
        periods q e (ceiling n (row rs q).period) from place early,
        tally_within (grabs x q from n) (grabs x q from (ceiling n (row rs q).period * (row rs q).period)) e
            (λ i l g.
            let f = any_find (λ k. x.serves q (from + k) i) n g in
            any_from (λ k. x.serves q (from + k) i) (ceiling n (row rs q).period * (row rs q).period) f.0 (omega (arith, f.1.0)) f.1.1),
      )

  -- from s on, only jobs released at s or later are served of the rows above the priority
  fresh : (priority s q b i : ℕ) → Idle rs x priority s → s ≤ i → (row rs q).priority < priority → (v : Served rs x ahead q b i) → s ≤ v.at
  fresh priority s q b i idle low high v = go (cases_lt v.at s)
    where
      go : (v.at < s) ⊎ (s ≤ v.at) → s ≤ v.at
      go (inr late) = late
      go (inl before) =
          absurd (idle (s - 1) q b (omega arith) v.place high (record {
            arrived = v.arrived;
            at = v.at;
            released = v.released;
            by = omega arith;
            unfinished = omega (arith, had_rises x q b (s - 1) i (omega arith), v.unfinished);
          }))

  -- m ticks that each serve a higher row or pass another test are no more than the higher rows can ask for and the test passes
  pub counted : (priority more n s m : ℕ) (other : ℕ → Bool) → Idle rs x priority s → m ≤ n + more → s + m ≤ t + 1
      → ((i : ℕ) → s ≤ i → i < s + m → Above rs x priority i ⊎ (other i ≡ true))
      → m ≤ above priority more n rs + tally other (s + m)
  counted priority more n s m other idle short early each =
      omega (
        arith,
        above_covers priority more n (s + m) rs taken (λ q place high. stretch q (s + m) (from q) (n + (row rs q).jitter + more) place early),
        tally_fills (λ i. higher priority rs (λ q. taken q i)) other s m (λ i low high. filled i low high (each i low high)),
      )
    where
      from : ℕ → ℕ
      from q = s - (ahead q + (row rs q).jitter)

      taken : ℕ → ℕ → Bool
      taken q i = grabs x q (from q) (n + (row rs q).jitter + more) i

      filled : (i : ℕ) → s ≤ i → i < s + m → Above rs x priority i ⊎ (other i ≡ true) → (higher priority rs (λ q. taken q i) ≡ true) ⊎ (other i ≡ true)
      filled i low high (inr o) = inr o
      filled i low high (inl u) =
          let q : ℕ = u.place in
          let v : Served rs x ahead q u.arrival i = served q u.arrival i (omega arith) u.served in
          let late : s ≤ v.at = fresh priority s q u.arrival i idle low u.high v in
          let k : ℕ = u.arrival - from q in
          let same : u.arrival ≡ from q + k = omega (arith, v.closed) in
          let small : k < n + (row rs q).jitter + more = omega (arith, v.opened, v.by) in
          inl (higher_from priority rs (λ p. taken p i) q v.place u.high
          (any_from (λ j. x.serves q (from q + j) i) (n + (row rs q).jitter + more) k small (subst (λ (b : ℕ). x.serves q b i ≡ true) same u.served)))
