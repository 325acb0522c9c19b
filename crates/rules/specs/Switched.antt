-- A switch keeps the laws that the rule below it keeps.
use Rattle.std.specs.Prelude.{◌≡◌, ℕ, ◌+◌, ◌<◌, ◌≤◌, Bool, true, false, cond, List, length, Some, None, Option, refl}
use Rattle.std.proofs.Common.{sym, subst, ◌∙◌, arith}
use Rattle.service.specs.declared.Record.{Record}
use Rattle.std.proofs.lemmas.Bool.{both_ways, cond-true}
use Rattle.service.specs.Traces.{Trace, Done, Orderly}
use Rattle.service.specs.Rows.{row, IsRow, Fit}
use Rattle.service.specs.Laws.{Bounded, Patient, Rising, Ranged, Crowded, Lawful, closes}
use Rattle.service.specs.Answers.{admitted}
use Rattle.service.proofs.Checks.{rows_since, Admits, admit}
use Rattle.service.proofs.Answered.{answered_lawful, alike}
use Rattle.rules.specs.Switches.{all_longer, roomy, switched_allows, longer_least, longer_worst, switched_least, switched_worst}
use Rattle.rules.specs.Longer.{room_from, room_same, longer_none, long, same_jitter, same_period, same_least, longer_fit, longer_rows, longer_on_time, longer_looser}

module _ (s : ℕ) (least : List Record → ℕ → ℕ) (worst : List Record → ℕ → Option ℕ) where
  -- a worst shows that there is room
  worst_room : (rs : List Record) (p w : ℕ) → longer_worst s worst rs p ≡ Some w → (roomy s rs ≡ true) × (worst (all_longer s rs) p ≡ Some w)
  worst_room rs p w e = go (roomy s rs) refl e
    where
      go : (b : Bool) → roomy s rs ≡ b → cond b (worst (all_longer s rs) p) None ≡ Some w → (roomy s rs ≡ true) × (worst (all_longer s rs) p ≡ Some w)
      go true is e = (is, e)
      go false is e = let z : ◌≡◌ {A = ℕ} 0 1 = cc in absurd (omega arith)

  longer_bounded : (may : List Record → Trace → Type 0) → Bounded may worst → Bounded (switched_allows s may) (longer_worst s worst)
  longer_bounded may law rs x ahead t p a w rows orderly ok on_time h here e in-time lasts =
      let ls = all_longer s rs in
      let j = same_jitter s rs p h in
      let same : closes ls ahead p a + w ≡ closes rs ahead p a + w = omega (arith, j) in
      subst (Done x p a) same (law ls x ahead t p a w (longer_rows s rs ok.0 rows) (subst (λ n. Orderly n x) (sym (long s rs)) orderly) ok.1
      (longer_on_time s rs x ahead t on_time) (omega (arith, long s rs)) here (worst_room rs p w e).1 (omega (arith, same)) (omega (arith, same)))

  longer_patient : (may : List Record → Trace → Type 0) → Patient may least → Patient (switched_allows s may) (longer_least s least)
  longer_patient may law rs x p a r f rows orderly ok h released finishes =
      rw ok.0 (law (all_longer s rs) x p a r f (longer_rows s rs ok.0 rows) (subst (λ n. Orderly n x) (sym (long s rs)) orderly) ok.1 (omega (arith, long s rs)) released finishes)

  longer_rising : Rising least worst → Rising (longer_least s least) (longer_worst s worst)
  longer_rising law rs ss rows rows' l p h = go (roomy s rs) refl
    where
      same : roomy s rs ≡ roomy s ss
      same = room_same s rs ss l.same_length (λ q k. l.same_greatest q k)

      go : (b : Bool) → roomy s rs ≡ b
          → (longer_least s least rs p ≡ longer_least s least ss p) × ((w : ℕ) → longer_worst s worst ss p ≡ Some w → (v : ℕ) × ((longer_worst s worst rs p ≡ Some v) × (v ≤ w)))
      go true is =
          let is' : roomy s ss ≡ true = sym same ∙ is in
          let below = law (all_longer s rs) (all_longer s ss) (longer_rows s rs is rows) (longer_rows s ss is' rows') (longer_looser s rs ss l) p (omega (arith, long s rs)) in
          (rw (is, is') below.0, λ w e. let v = below.1 w (worst_room ss p w e).1 in (v.0, (cond-true (roomy s rs) _ _ is ∙ v.1.0, v.1.1)))
      go false is =
          let is' : roomy s ss ≡ false = sym same ∙ is in
          (rw (is, is') (l.same_least p h), λ w e. let on = (worst_room ss p w e).0 in absurd (both_ways (roomy s ss) is' on))

  longer_ranged : Ranged least worst → Ranged (longer_least s least) (longer_worst s worst)
  longer_ranged law rs rows p h = (low (roomy s rs) refl, high)
    where
      h' : p < length (all_longer s rs)
      h' = omega (arith, long s rs)

      low : (b : Bool) → roomy s rs ≡ b → (1 ≤ longer_least s least rs p) × (longer_least s least rs p ≤ 20000000)
      low true is = rw is (law (all_longer s rs) (longer_rows s rs is rows) p h').0
      low false is = let i : IsRow (row rs p) = rows.each p h in rw is (i.least_low, omega (arith, i.least_high, i.greatest_high))

      high : (w : ℕ) → longer_worst s worst rs p ≡ Some w → (longer_least s least rs p ≤ w) × ((row rs p).jitter + w ≤ (row rs p).period)
      high w e =
          let f = worst_room rs p w e in
          let below = (law (all_longer s rs) (longer_rows s rs f.0 rows) p h').1 w f.1 in
          (rw f.0 below.0, omega (arith, below.1, same_jitter s rs p h, same_period s rs p h))

  -- where there are too many rows the least is the least demand
  longer_many : Crowded least worst → (rs : List Record) (p : ℕ) → Fit rs → p < length rs → 256 < length rs → longer_least s least rs p ≡ (row rs p).least
  longer_many law rs p each h many = go (roomy s rs) refl
    where
      go : (b : Bool) → roomy s rs ≡ b → longer_least s least rs p ≡ (row rs p).least
      go true is = rw is ((law (all_longer s rs) p (longer_fit s rs is each) (omega (arith, long s rs)) (omega (arith, long s rs))).0 ∙ same_least s rs p h)
      go false is = rw is

-- so a switch over a lawful rule is lawful
pub switched_lawful : (s : ℕ) (may : List Record → Trace → Type 0) (least : List Record → ℕ → ℕ) (worst : List Record → ℕ → Option ℕ) → Lawful may least worst
    → Lawful (switched_allows s may) (switched_least s least) (switched_worst s worst)
switched_lawful s may least worst laws =
    answered_lawful (longer_least s least) (longer_worst s worst) (longer_many s least worst laws.crowded) (switched_allows s may)
    (longer_bounded s least worst may laws.bounded) (longer_patient s least worst may laws.patient) (longer_rising s least worst laws.rising) (longer_ranged s least worst laws.ranged)

-- a switch of no ticks answers what the rule below answers
pub no_ticks : (may : List Record → Trace → Type 0) (least : List Record → ℕ → ℕ) (worst : List Record → ℕ → Option ℕ) → Lawful may least worst
    → (rs : List Record) (p : ℕ) → (switched_least 0 least rs p ≡ least rs p) × (switched_worst 0 worst rs p ≡ worst rs p)
no_ticks may least worst laws =
    alike (switched_allows 0 may) may (switched_least 0 least) least (switched_worst 0 worst) worst (switched_lawful 0 may least worst laws) laws own
  where
    own : (rs : List Record) (p : ℕ) → Admits rs p → (switched_least 0 least rs p ≡ least rs p) × (switched_worst 0 worst rs p ≡ worst rs p)
    own rs p open_to =
        let on : admitted rs p ≡ true = admit rs p open_to in
        let room : roomy 0 rs ≡ true = room_from 0 rs (λ q h. omega (arith, (rows_since rs open_to.all q h).greatest_high)) in
        (rw (on, room, longer_none rs), rw (on, room, longer_none rs))
