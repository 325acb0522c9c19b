-- Numbers that obey the laws on rows obey them all once bad input is answered as every rule answers it.
use Rattle.std.proofs.Common.{◌≡◌, ℕ, ◌<◌, ◌≤◌, Bool, true, false, cond, ltb, leb, ◌⊎◌, List, length, Some, None, Option, sym, refl, ◌∙◌, inl, inr, arith}
use Rattle.std.proofs.lemmas.Bool.{cases_Bool, cases_lt, lt-ltb, ltb-true, leb-true, both_ways}
use Rattle.service.specs.declared.Record.{Record}
use Rattle.service.specs.Traces.{Trace}
use Rattle.service.specs.Rows.{row, IsRow, Fit}
use Rattle.service.specs.Laws.{Bounded, Patient, Rising, Ranged, Unfit, Beyond, Crowded, Lawful}
use Rattle.service.specs.Answers.{is_row, all_rows, admitted, answered_least, answered_worst}
use Rattle.service.proofs.Checks.{row_since, row_test, no_row_test, rows_since, rows_test, no_rows_test, unfit_at, Admits, admits, admit}

-- places that are not admitted
unfit : (rs : List Record) (p q : ℕ) → q < length rs → (IsRow (row rs q) → ⊥) → all_rows rs ≡ false
unfit rs p q h none = no_rows_test rs q h (no_row_test (row rs q) none)

not_below : (p n : ℕ) → n ≤ p → ltb p n ≡ false
not_below p n h = go (cases_Bool (ltb p n))
  where
    go : (ltb p n ≡ true) ⊎ (ltb p n ≡ false) → ltb p n ≡ false
    go (inl e) = absurd (omega (arith, ltb-true p n e))
    go (inr e) = e

not_within : (m n : ℕ) → n < m → leb m n ≡ false
not_within m n h = go (cases_Bool (leb m n))
  where
    go : (leb m n ≡ true) ⊎ (leb m n ≡ false) → leb m n ≡ false
    go (inl e) = absurd (omega (arith, leb-true m n e))
    go (inr e) = e

-- a worst that is answered is the rule's own, at a place that is admitted
pub worst_own : (of : List Record → ℕ → Option ℕ) (rs : List Record) (p w : ℕ) → answered_worst of rs p ≡ Some w → Admits rs p × (of rs p ≡ Some w)
worst_own of rs p w e = go (admitted rs p) refl e
  where
    go : (b : Bool) → admitted rs p ≡ b → cond b (of rs p) None ≡ Some w → Admits rs p × (of rs p ≡ Some w)
    go true is e = (admits rs p is, e)
    go false is e = let z : ◌≡◌ {A = ℕ} 0 1 = cc in absurd (omega arith)

-- the least of a row is the rule's own, if that is the least demand where there are too many rows
pub least_own : (of : List Record → ℕ → ℕ) (rs : List Record) (p : ℕ) → Fit rs → p < length rs → (256 < length rs → of rs p ≡ (row rs p).least) → answered_least of rs p ≡ of rs p
least_own of rs p each h many = go (cases_lt 256 (length rs))
  where
    all : all_rows rs ≡ true
    all = rows_test rs each

    go : (256 < length rs) ⊎ (length rs ≤ 256) → answered_least of rs p ≡ of rs p
    go (inl more) = rw (all, lt-ltb p (length rs) h, not_within (length rs) 256 more) (sym (many more))
    go (inr few) = rw (admit rs p (record { all = all; place = h; few = few }))

module _ (least : List Record → ℕ → ℕ) (worst : List Record → ℕ → Option ℕ) (many : (rs : List Record) (p : ℕ) → Fit rs → p < length rs → 256 < length rs → least rs p ≡ (row rs p).least) where
  answered_bounded : (may : List Record → Trace → Type 0) → Bounded may worst → Bounded may (answered_worst worst)
  answered_bounded may law rs x ahead t p a w rows orderly ok on_time h here e =
      law rs x ahead t p a w rows orderly ok on_time h here (worst_own worst rs p w e).1

  answered_patient : (may : List Record → Trace → Type 0) → Patient may least → Patient may (answered_least least)
  answered_patient may law rs x p a r f rows orderly ok h released finishes =
      rw (least_own least rs p rows.each h (many rs p rows.each h)) (law rs x p a r f rows orderly ok h released finishes)

  answered_rising : Rising least worst → Rising (answered_least least) (answered_worst worst)
  answered_rising law rs ss good loose-good looser p h =
      let h' : p < length ss = omega (arith, looser.same_length) in
      let l = law rs ss good loose-good looser p h in (
        least_own least rs p good.each h (many rs p good.each h) ∙ l.0 ∙ sym (least_own least ss p loose-good.each h' (many ss p loose-good.each h')),
        λ w e.
            let own = worst_own worst ss p w e in
            let v = l.1 w own.1 in
            let open_to : Admits rs p = record { all = rows_test rs good.each; place = h; few = omega (arith, looser.same_length, own.0.few) } in
            (v.0, (rw (admit rs p open_to) v.1.0, v.1.1)),
      )

  answered_ranged : Ranged least worst → Ranged (answered_least least) (answered_worst worst)
  answered_ranged law rs good p h =
      let l = law rs good p h in
      let same : answered_least least rs p ≡ least rs p = least_own least rs p good.each h (many rs p good.each h) in
      (rw same l.0, λ w e. rw same (l.1 w (worst_own worst rs p w e).1))

  answered_unfit : Unfit (answered_least least) (answered_worst worst)
  answered_unfit rs p q h none = let fails : all_rows rs ≡ false = unfit rs p q h none in (rw fails, rw fails)

  answered_beyond : Beyond (answered_least least) (answered_worst worst)
  answered_beyond rs p each h = let all : all_rows rs ≡ true = rows_test rs each in let out : ltb p (length rs) ≡ false = not_below p (length rs) h in (rw (all, out), rw (all, out))

  answered_crowded : Crowded (answered_least least) (answered_worst worst)
  answered_crowded rs p each h more =
      let all : all_rows rs ≡ true = rows_test rs each in
      let here : ltb p (length rs) ≡ true = lt-ltb p (length rs) h in
      let over : leb (length rs) 256 ≡ false = not_within (length rs) 256 more in
      (rw (all, here, over), rw (all, here, over))

  -- so numbers that obey the laws on rows make a lawful rule
  pub answered_lawful : (may : List Record → Trace → Type 0) → Bounded may worst → Patient may least → Rising least worst → Ranged least worst
      → Lawful may (answered_least least) (answered_worst worst)
  answered_lawful may bounded patient rising ranged = record {
    bounded = answered_bounded may bounded;
    patient = answered_patient may patient;
    rising = answered_rising rising;
    ranged = answered_ranged ranged;
    unfit = answered_unfit;
    beyond = answered_beyond;
    crowded = answered_crowded;
  }

-- two rules that answer alike where they have numbers of their own answer alike
pub alike : (may may' : List Record → Trace → Type 0) (least least' : List Record → ℕ → ℕ) (worst worst' : List Record → ℕ → Option ℕ) → Lawful may least worst → Lawful may' least' worst'
    → ((rs : List Record) (p : ℕ) → Admits rs p → (least rs p ≡ least' rs p) × (worst rs p ≡ worst' rs p))
    → (rs : List Record) (p : ℕ) → (least rs p ≡ least' rs p) × (worst rs p ≡ worst' rs p)
alike may may' least least' worst worst' u v own rs p = go (cases_Bool (all_rows rs)) (cases_lt p (length rs)) (cases_lt 256 (length rs))
  where
    both : {x y : ℕ} {o q : Option ℕ} → (least rs p ≡ x) × (worst rs p ≡ o) → (least' rs p ≡ y) × (worst' rs p ≡ q) → x ≡ y → o ≡ q
        → (least rs p ≡ least' rs p) × (worst rs p ≡ worst' rs p)
    both a b e f = (a.0 ∙ e ∙ sym b.0, a.1 ∙ f ∙ sym b.1)

    go : (all_rows rs ≡ true) ⊎ (all_rows rs ≡ false) → (p < length rs) ⊎ (length rs ≤ p) → (256 < length rs) ⊎ (length rs ≤ 256)
        → (least rs p ≡ least' rs p) × (worst rs p ≡ worst' rs p)
    go (inr none) c d = let f = unfit_at rs none in both (u.unfit rs p f.0 f.1.0 f.1.1) (v.unfit rs p f.0 f.1.0 f.1.1) refl refl
    go (inl all) (inr past) d = both (u.beyond rs p (rows_since rs all) past) (v.beyond rs p (rows_since rs all) past) refl refl
    go (inl all) (inl here) (inl many) = both (u.crowded rs p (rows_since rs all) here many) (v.crowded rs p (rows_since rs all) here many) refl refl
    go (inl all) (inl here) (inr few) = own rs p (record { all = all; place = here; few = few })

-- a rule that gives a worst was told rows only
pub fit_since : (least : List Record → ℕ → ℕ) (worst : List Record → ℕ → Option ℕ) → Unfit least worst → (rs : List Record) (p w : ℕ) → worst rs p ≡ Some w → Fit rs
fit_since least worst law rs p w e q h = go (cases_Bool (is_row (row rs q)))
  where
    go : (is_row (row rs q) ≡ true) ⊎ (is_row (row rs q) ≡ false) → IsRow (row rs q)
    go (inl test) = row_since (row rs q) test
    go (inr test) =
        let none : worst rs p ≡ None = (law rs p q h (λ i. both_ways (is_row (row rs q)) test (row_test (row rs q) i))).1 in
        let z : ◌≡◌ {A = ℕ} 0 1 = cc in
        absurd (omega arith)
