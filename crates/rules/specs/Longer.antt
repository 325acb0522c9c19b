-- Longer records are rows where there is room, and are on time where the records are.
use Rattle.std.specs.Prelude.{◌≡◌, ℕ, zero, suc, ◌+◌, ◌*◌, ◌<◌, ◌≤◌, true, false, ◌⊎◌, List, [], ◌∷◌, length, nat_le, refl}
use Rattle.std.proofs.Common.{sym, ap, ◌∙◌, inl, inr, arith}
use Rattle.std.proofs.lemmas.List.{get_or-map, length-map}
use Rattle.std.proofs.lemmas.Bool.{and_parts, and_from, leb-true, le-leb, cases_Bool}
use Rattle.service.specs.declared.Record.{Record}
use Rattle.service.specs.Traces.{Trace}
use Rattle.service.specs.Rows.{row, no_record, IsRow, Fit, Rows, Looser}
use Rattle.service.specs.Laws.{OnTime}
use Rattle.rules.specs.Switches.{longer, all_longer, roomy}

-- what room says of each record
pub room_at : (s : ℕ) (rs : List Record) → roomy s rs ≡ true → (p : ℕ) → p < length rs → (row rs p).greatest + 2 * s ≤ 20000000
room_at s [] e p h = absurd (omega arith)
room_at s (r ∷ rs) e zero h = leb-true _ _ (and_parts (nat_le (r.greatest + 2 * s) 20000000) (roomy s rs) e).0
room_at s (r ∷ rs) e (suc p) h = room_at s rs (and_parts (nat_le (r.greatest + 2 * s) 20000000) (roomy s rs) e).1 p (omega arith)

pub room_from : (s : ℕ) (rs : List Record) → ((p : ℕ) → p < length rs → (row rs p).greatest + 2 * s ≤ 20000000) → roomy s rs ≡ true
room_from s [] each = refl
room_from s (r ∷ rs) each = and_from (nat_le (r.greatest + 2 * s) 20000000) (roomy s rs) (le-leb _ _ (each 0 (omega arith))) (room_from s rs (λ p h. each (suc p) (omega arith)))

pub no_room : (s : ℕ) (rs : List Record) (p : ℕ) → p < length rs → 20000000 < (row rs p).greatest + 2 * s → roomy s rs ≡ false
no_room s rs p h over = go (cases_Bool (roomy s rs))
  where
    go : (roomy s rs ≡ true) ⊎ (roomy s rs ≡ false) → roomy s rs ≡ false
    go (inl e) = absurd (omega (arith, room_at s rs e p h))
    go (inr e) = e

-- it goes by the greatest demands alone
pub room_same : (s : ℕ) (rs ss : List Record) → length rs ≡ length ss → ((p : ℕ) → p < length rs → (row rs p).greatest ≡ (row ss p).greatest) → roomy s rs ≡ roomy s ss
room_same s [] [] same each = refl
room_same s [] (t ∷ ss) same each = absurd (omega arith)
room_same s (r ∷ rs) [] same each = absurd (omega arith)
room_same s (r ∷ rs) (t ∷ ss) same each =
    let first : r.greatest ≡ t.greatest = each 0 (omega arith) in
    rw (first, room_same s rs ss (omega arith) (λ p h. each (suc p) (omega arith)))

-- no ticks alter nothing
pub longer_none : (rs : List Record) → all_longer 0 rs ≡ rs
longer_none [] = refl
longer_none (r ∷ rs) =
    let same : r.greatest + 2 * 0 ≡ r.greatest = omega arith in
    let one : longer 0 r ≡ r = ap (λ n. record { priority = r.priority; period = r.period; jitter = r.jitter; least = r.least; greatest = n }) same in
    rw (one, longer_none rs)

module _ (s : ℕ) (rs : List Record) where
  pub long : length (all_longer s rs) ≡ length rs
  long = length-map rs (longer s)

  pub row_longer : (p : ℕ) → p < length rs → row (all_longer s rs) p ≡ longer s (row rs p)
  row_longer p h = get_or-map (longer s) rs p no_record no_record h

  pub same_jitter : (p : ℕ) → p < length rs → (row (all_longer s rs) p).jitter ≡ (row rs p).jitter
  same_jitter p h = ap (λ (r : Record). r.jitter) (row_longer p h)

  pub same_period : (p : ℕ) → p < length rs → (row (all_longer s rs) p).period ≡ (row rs p).period
  same_period p h = ap (λ (r : Record). r.period) (row_longer p h)

  pub same_least : (p : ℕ) → p < length rs → (row (all_longer s rs) p).least ≡ (row rs p).least
  same_least p h = ap (λ (r : Record). r.least) (row_longer p h)

  pub same_priority : (p : ℕ) → p < length rs → (row (all_longer s rs) p).priority ≡ (row rs p).priority
  same_priority p h = ap (λ (r : Record). r.priority) (row_longer p h)

  pub same_greatest : (p : ℕ) → p < length rs → (row (all_longer s rs) p).greatest ≡ (row rs p).greatest + 2 * s
  same_greatest p h = ap (λ (r : Record). r.greatest) (row_longer p h)

  pub longer_fit : roomy s rs ≡ true → Fit rs → Fit (all_longer s rs)
  longer_fit room each p h =
      let h' : p < length rs = omega (arith, long) in
      let i : IsRow (row rs p) = each p h' in
      rw (row_longer p h') (record {
        period_low = i.period_low;
        period_high = i.period_high;
        jitter_high = i.jitter_high;
        least_low = i.least_low;
        least_high = omega (arith, i.least_high);
        greatest_high = room_at s rs room p h';
      })

  pub longer_rows : roomy s rs ≡ true → Rows rs → Rows (all_longer s rs)
  longer_rows room rows = record {
    each = longer_fit room rows.each;
    apart = λ p q h h' e.
        let hp : p < length rs = omega (arith, long) in
        let hq : q < length rs = omega (arith, long) in
        rows.apart p q hp hq (sym (same_priority p hp) ∙ e ∙ same_priority q hq);
  }

  pub longer_on_time : (x : Trace) (ahead : ℕ → ℕ) (t : ℕ) → OnTime rs x ahead t → OnTime (all_longer s rs) x ahead t
  longer_on_time x ahead t o = record {
    spaced = λ p a b h xa xb ab bt. omega (arith, same_period p (omega (arith, long)), o.spaced p a b (omega (arith, long)) xa xb ab bt);
    inside = λ p a r h xa e rt.
        let i = o.inside p a r (omega (arith, long)) xa e rt in
        let j = same_jitter p (omega (arith, long)) in
        (i.0, omega (arith, i.1, j));
    present = λ p a h xa due.
        let j = same_jitter p (omega (arith, long)) in
        let i = o.present p a (omega (arith, long)) xa (omega (arith, j)) in
        (i.0, (i.1.0, omega (arith, i.1.1, j)));
  }

-- larger jitters stay larger
pub longer_looser : (s : ℕ) (rs ss : List Record) → Looser rs ss → Looser (all_longer s rs) (all_longer s ss)
longer_looser s rs ss l = record {
  same_length = long s rs ∙ l.same_length ∙ sym (long s ss);
  same_priority = λ p h. same_priority s rs p (in_rs p h) ∙ l.same_priority p (in_rs p h) ∙ sym (same_priority s ss p (in_ss p h));
  same_period = λ p h. same_period s rs p (in_rs p h) ∙ l.same_period p (in_rs p h) ∙ sym (same_period s ss p (in_ss p h));
  same_least = λ p h. same_least s rs p (in_rs p h) ∙ l.same_least p (in_rs p h) ∙ sym (same_least s ss p (in_ss p h));
  same_greatest = λ p h. omega (arith, same_greatest s rs p (in_rs p h), l.same_greatest p (in_rs p h), same_greatest s ss p (in_ss p h));
  jitter = λ p h. omega (arith, same_jitter s rs p (in_rs p h), l.jitter p (in_rs p h), same_jitter s ss p (in_ss p h));
}
  where
    in_rs : (p : ℕ) → p < length (all_longer s rs) → p < length rs
    in_rs p h = omega (arith, long s rs)

    in_ss : (p : ℕ) → p < length (all_longer s rs) → p < length ss
    in_ss p h = omega (arith, long s rs, l.same_length)
