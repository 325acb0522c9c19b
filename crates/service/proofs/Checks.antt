-- The tests of records and what they say.
use Rattle.std.proofs.Common.{◌≡◌, ℕ, zero, suc, ◌<◌, ◌≤◌, true, false, ◌&&◌, ltb, leb, ◌⊎◌, List, [], ◌∷◌, length, Some, None, Option, refl, inl, inr, le_of_suc-le-suc, not-suc-le-zero, arith, MatchOption, MatchResult}
use Rattle.std.proofs.lemmas.Bool.{and_parts, and_from, leb-true, le-leb, ltb-true, lt-ltb, cases_Bool, both_ways}
use Rattle.std.specs.Option.{ok_or}
use Rattle.service.specs.declared.Record.{Record}
use Rattle.service.specs.declared.Response.{Response}
use Rattle.service.specs.declared.row.Row.{Row}
use Rattle.service.specs.Rows.{row, IsRow, Fit}
use Rattle.service.specs.Answers.{is_row, all_rows, admitted, Refused}

pub row_since : (r : Record) → is_row r ≡ true → IsRow r
row_since r e =
    let a = and_parts (leb 1 r.period) _ e in
    let b = and_parts (leb r.period 10000000) _ a.1 in
    let c = and_parts (leb r.jitter 10000000) _ b.1 in
    let d = and_parts (leb 1 r.least) _ c.1 in
    let f = and_parts (leb r.least r.greatest) (leb r.greatest 20000000) d.1 in
    record {
      period_low = leb-true 1 r.period a.0;
      period_high = leb-true r.period 10000000 b.0;
      jitter_high = leb-true r.jitter 10000000 c.0;
      least_low = leb-true 1 r.least d.0;
      least_high = leb-true r.least r.greatest f.0;
      greatest_high = leb-true r.greatest 20000000 f.1;
    }

pub row_test : (r : Record) → IsRow r → is_row r ≡ true
row_test r i =
    rw (
      le-leb 1 r.period i.period_low,
      le-leb r.period 10000000 i.period_high,
      le-leb r.jitter 10000000 i.jitter_high,
      le-leb 1 r.least i.least_low,
      le-leb r.least r.greatest i.least_high,
      le-leb r.greatest 20000000 i.greatest_high,
    )

-- a record that can be no row fails the test
pub no_row_test : (r : Record) → (IsRow r → ⊥) → is_row r ≡ false
no_row_test r none = go (cases_Bool (is_row r))
  where
    go : (is_row r ≡ true) ⊎ (is_row r ≡ false) → is_row r ≡ false
    go (inl e) = absurd (none (row_since r e))
    go (inr e) = e

pub rows_since : (rs : List Record) → all_rows rs ≡ true → Fit rs
rows_since [] e q h = absurd (not-suc-le-zero h)
rows_since (r ∷ rs) e zero h = row_since r (and_parts (is_row r) (all_rows rs) e).0
rows_since (r ∷ rs) e (suc q) h = rows_since rs (and_parts (is_row r) (all_rows rs) e).1 q (le_of_suc-le-suc h)

pub rows_test : (rs : List Record) → Fit rs → all_rows rs ≡ true
rows_test [] each = refl
rows_test (r ∷ rs) each = and_from (is_row r) (all_rows rs) (row_test r (each 0 (omega arith))) (rows_test rs (λ q h. each (suc q) (omega arith)))

-- one record that can be no row fails the test of all
pub no_rows_test : (rs : List Record) (q : ℕ) → q < length rs → is_row (row rs q) ≡ false → all_rows rs ≡ false
no_rows_test rs q h e = go (cases_Bool (all_rows rs))
  where
    go : (all_rows rs ≡ true) ⊎ (all_rows rs ≡ false) → all_rows rs ≡ false
    go (inl all) = absurd (both_ways (is_row (row rs q)) e (row_test (row rs q) (rows_since rs all q h)))
    go (inr none) = none

-- and where the test of all fails, some record can be no row
pub unfit_at : (rs : List Record) → all_rows rs ≡ false → (q : ℕ) × ((q < length rs) × (IsRow (row rs q) → ⊥))
unfit_at [] e = absurd (both_ways true e refl)
unfit_at (r ∷ rs) e = go (unfit_at rs) (cases_Bool (is_row r)) (cases_Bool (all_rows rs))
  where
    go : (all_rows rs ≡ false → (q : ℕ) × ((q < length rs) × (IsRow (row rs q) → ⊥))) → (is_row r ≡ true) ⊎ (is_row r ≡ false) → (all_rows rs ≡ true) ⊎ (all_rows rs ≡ false)
        → (q : ℕ) × ((q < length (r ∷ rs)) × (IsRow (row (r ∷ rs) q) → ⊥))
    go ih (inr here) rest = (0, (omega arith, λ i. both_ways (is_row r) here (row_test r i)))
    go ih (inl here) (inr there) = let f : (q : ℕ) × ((q < length rs) × (IsRow (row rs q) → ⊥)) = ih there in (suc f.0, (omega (arith, f.1.0), f.1.1))
    go ih (inl here) (inl there) = absurd (both_ways (is_row r && all_rows rs) e (and_from (is_row r) (all_rows rs) here there))

-- what an admitted place says
pub record Admits (rs : List Record) (p : ℕ) : Type 0 where
  pub all : all_rows rs ≡ true
  pub place : p < length rs
  pub few : length rs ≤ 256

pub admits : (rs : List Record) (p : ℕ) → admitted rs p ≡ true → Admits rs p
admits rs p e =
    let a = and_parts (all_rows rs) _ e in
    let b = and_parts (ltb p (length rs)) (leb (length rs) 256) a.1 in
    record { all = a.0; place = ltb-true p (length rs) b.0; few = leb-true (length rs) 256 b.1 }

pub admit : (rs : List Record) (p : ℕ) → Admits rs p → admitted rs p ≡ true
admit rs p a = rw (a.all, lt-ltb p (length rs) a.place, le-leb (length rs) 256 a.few)

-- the row that is found at a place to which a rule is open
pub found : (rs : List Record) (p : ℕ) (o : Option Row) (e : Response) → Admits rs p → MatchOption o (IsRow (row rs p) → ⊥) (λ w. w.told ≡ row rs p)
    → MatchResult (ok_or o e) (λ w. (admitted rs p ≡ true) × (w.told ≡ row rs p)) (Refused rs p)
found rs p None e open_to none = absurd (none (rows_since rs open_to.all p open_to.place))
found rs p (Some w) e open_to same = (admit rs p open_to, same)
