-- The sums and the longest frame of the response equations: how they rise, and what they cover.
use Rattle.std.proofs.Common.{◌≡◌, ℕ, zero, suc, ◌+◌, ◌<◌, ◌≤◌, max, Bool, true, false, cond, ◌||◌, ltb, leb, List, [], ◌∷◌, length, take, refl, mul-le-mul, add-one, arith}
use Rattle.std.proofs.lemmas.Bool.{both_ways, lt-ltb, ltb-true, le-leb, or_cases, or_right}
use Rattle.service.specs.declared.Record.{Record}
use Rattle.service.specs.Rows.{row, Fit}
use Rattle.bounds.specs.Equations.{asks, summed, above, longest}
use Rattle.bounds.proofs.Solutions.{ceiling_rises}
use Rattle.bounds.proofs.Tallies.{tally, tally_none, tally_joins}

-- a loop's step: one row more
pub summed_more : (f : Record → ℕ) (priority : ℕ) (rs : List Record) (i : ℕ) → i < length rs
    → summed f priority (take (suc i) rs) ≡ summed f priority (take i rs) + cond (ltb (row rs i).priority priority) (f (row rs i)) 0
summed_more f priority [] i h = absurd (omega arith)
summed_more f priority (r ∷ rs) zero h = omega arith
summed_more f priority (r ∷ rs) (suc i) h = omega (arith, summed_more f priority rs i (omega arith))

-- the step at a row that is above the priority, and at one that is not
module _ (f : Record → ℕ) (priority : ℕ) (rs : List Record) (i : ℕ) (h : i < length rs) where
  pub summed_in : ltb (row rs i).priority priority ≡ true → summed f priority (take (i + 1) rs) ≡ summed f priority (take i rs) + f (row rs i)
  summed_in high = rw add-one (rw high at (summed_more f priority rs i h))

  pub summed_out : ltb (row rs i).priority priority ≡ false → summed f priority (take (i + 1) rs) ≡ summed f priority (take i rs)
  summed_out low = rw add-one (omega (arith, rw low at (summed_more f priority rs i h)))

-- fewer rows have no larger sum
pub summed_take : (f : Record → ℕ) (priority : ℕ) (rs : List Record) (i : ℕ) → summed f priority (take i rs) ≤ summed f priority rs
summed_take f priority rs zero = omega arith
summed_take f priority [] (suc i) = omega arith
summed_take f priority (r ∷ rs) (suc i) = omega (arith, summed_take f priority rs i)

-- where each number is no larger, neither is the sum
pub summed_below : (f g : Record → ℕ) (priority : ℕ) (rs : List Record) → ((q : ℕ) → q < length rs → f (row rs q) ≤ g (row rs q))
    → summed f priority rs ≤ summed g priority rs
summed_below f g priority [] each = omega arith
summed_below f g priority (r ∷ rs) each =
    go (summed_below f g priority rs (λ q h. each (suc q) (omega arith))) (each 0 (omega arith)) (ltb r.priority priority)
  where
    go : summed f priority rs ≤ summed g priority rs → f r ≤ g r → (b : Bool) → cond b (f r) 0 + summed f priority rs ≤ cond b (g r) 0 + summed g priority rs
    go rest one true = omega arith
    go rest one false = omega arith

-- the second record is the first with at least its jitter
pub record Loosens (r s : Record) : Type 0 where
  pub same_priority : r.priority ≡ s.priority
  pub same_period : r.period ≡ s.period
  pub same_greatest : r.greatest ≡ s.greatest
  pub jitter : r.jitter ≤ s.jitter
  pub period_low : 1 ≤ r.period

-- every row is itself with its jitter
pub loosens_itself : (rs : List Record) → Fit rs → (q : ℕ) → q < length rs → Loosens (row rs q) (row rs q)
loosens_itself rs each q h = record { same_priority = refl; same_period = refl; same_greatest = refl; jitter = omega arith; period_low = (each q h).period_low }

asks_rises : (more m n : ℕ) (r s : Record) → Loosens r s → m ≤ n → asks more m r ≤ asks more n s
asks_rises more m n r s l h =
    rw (← l.same_period, ← l.same_greatest)
    (mul-le-mul (ceiling_rises (m + r.jitter + more) (n + s.jitter + more) r.period l.period_low (omega arith)) (omega arith))

pub above_rises : (priority more m n : ℕ) (rs ss : List Record) → length rs ≡ length ss → ((p : ℕ) → p < length rs → Loosens (row rs p) (row ss p)) → m ≤ n
    → above priority more m rs ≤ above priority more n ss
above_rises priority more m n [] [] same each h = omega arith
above_rises priority more m n [] (s ∷ ss) same each h = absurd (omega arith)
above_rises priority more m n (r ∷ rs) [] same each h = absurd (omega arith)
above_rises priority more m n (r ∷ rs) (s ∷ ss) same each h =
    let first : Loosens r s = each 0 (omega arith) in
    rw (← first.same_priority)
    (go (above_rises priority more m n rs ss (omega arith) (λ p l. each (suc p) (omega arith)) h) (asks_rises more m n r s first h) (ltb r.priority priority))
  where
    go : above priority more m rs ≤ above priority more n ss → asks more m r ≤ asks more n s → (b : Bool)
        → cond b (asks more m r) 0 + above priority more m rs ≤ cond b (asks more n s) 0 + above priority more n ss
    go rest one true = omega arith
    go rest one false = omega arith

-- so the sum never falls as its stretch grows
pub above_grows : (priority more : ℕ) (rs : List Record) → Fit rs → (m n : ℕ) → m ≤ n → above priority more m rs ≤ above priority more n rs
above_grows priority more rs each m n h = above_rises priority more m n rs rs refl (loosens_itself rs each) h

pub longest_same : (priority : ℕ) (rs ss : List Record) → length rs ≡ length ss → ((p : ℕ) → p < length rs → Loosens (row rs p) (row ss p))
    → longest priority rs ≡ longest priority ss
longest_same priority [] [] same each = refl
longest_same priority [] (s ∷ ss) same each = absurd (omega arith)
longest_same priority (r ∷ rs) [] same each = absurd (omega arith)
longest_same priority (r ∷ rs) (s ∷ ss) same each =
    let first : Loosens r s = each 0 (omega arith) in
    rw (first.same_priority, first.same_greatest, longest_same priority rs ss (omega arith) (λ p l. each (suc p) (omega arith)))

pub longest_covers : (priority : ℕ) (rs : List Record) (p : ℕ) → p < length rs → priority ≤ (row rs p).priority → (row rs p).greatest ≤ longest priority rs
longest_covers priority [] p h low = absurd (omega arith)
longest_covers priority (r ∷ rs) zero h low = let low' : leb priority r.priority ≡ true = le-leb _ _ low in rw low' (omega arith)
longest_covers priority (r ∷ rs) (suc p) h low = omega (arith, longest_covers priority rs p (omega arith) low)

-- a loop's step: one row more
pub longest_more : (priority : ℕ) (rs : List Record) (i : ℕ) → i < length rs
    → longest priority (take (i + 1) rs) ≡ max (longest priority (take i rs)) (cond (leb priority (row rs i).priority) (row rs i).greatest 0)
longest_more priority rs i h = rw add-one (go rs i h)
  where
    go : (rs : List Record) (i : ℕ) → i < length rs
        → longest priority (take (suc i) rs) ≡ max (longest priority (take i rs)) (cond (leb priority (row rs i).priority) (row rs i).greatest 0)
    go [] i h = absurd (omega arith)
    go (r ∷ rs) zero h = omega arith
    go (r ∷ rs) (suc i) h = omega (arith, go rs i (omega arith))

pub longest_high : (priority : ℕ) (rs : List Record) → Fit rs → longest priority rs ≤ 20000000
longest_high priority [] each = omega arith
longest_high priority (r ∷ rs) each = go (longest_high priority rs (λ q h. each (suc q) (omega arith))) (each 0 (omega arith)).greatest_high (leb priority r.priority)
  where
    go : longest priority rs ≤ 20000000 → r.greatest ≤ 20000000 → (b : Bool) → max (cond b r.greatest 0) (longest priority rs) ≤ 20000000
    go rest one true = omega arith
    go rest one false = omega arith

-- whether a row above a priority passes a test of its place
abbrev pub higher : ℕ → List Record → (ℕ → Bool) → Bool
higher priority [] f = false
higher priority (r ∷ rs) f = cond (ltb r.priority priority) (f 0) false || higher priority rs (λ p. f (suc p))

pub higher_from : (priority : ℕ) (rs : List Record) (f : ℕ → Bool) (p : ℕ) → p < length rs → (row rs p).priority < priority → f p ≡ true → higher priority rs f ≡ true
higher_from priority [] f p h low e = absurd (omega arith)
higher_from priority (r ∷ rs) f zero h low e = let low' : ltb r.priority priority ≡ true = lt-ltb _ _ low in rw (low', e)
higher_from priority (r ∷ rs) f (suc p) h low e = or_right _ _ (higher_from priority rs (λ q. f (suc q)) p (omega arith) low e)

pub higher_find : (priority : ℕ) (rs : List Record) (f : ℕ → Bool) → higher priority rs f ≡ true
    → (p : ℕ) × ((p < length rs) × ((row rs p).priority < priority) × (f p ≡ true))
higher_find priority [] f e = absurd (both_ways false refl e)
higher_find priority (r ∷ rs) f e = go (higher_find priority rs (λ q. f (suc q))) (ltb r.priority priority) refl (f 0) refl e
  where
    go : (higher priority rs (λ q. f (suc q)) ≡ true → (p : ℕ) × ((p < length rs) × ((row rs p).priority < priority) × (f (suc p) ≡ true)))
        → (b : Bool) → ltb r.priority priority ≡ b → (c : Bool) → f 0 ≡ c → (cond b c false || higher priority rs (λ q. f (suc q))) ≡ true
        → (p : ℕ) × ((p < suc (length rs)) × ((row (r ∷ rs) p).priority < priority) × (f p ≡ true))
    go ih true low true at_zero k = (0, (omega arith, ltb-true _ _ low, at_zero))
    go ih true low false at_zero k =
        let t : (p : ℕ) × ((p < length rs) × ((row rs p).priority < priority) × (f (suc p) ≡ true)) = ih k in
        (suc t.0, (omega arith, t.1.1, t.1.2))
    go ih false low c at_zero k =
        let t : (p : ℕ) × ((p < length rs) × ((row rs p).priority < priority) × (f (suc p) ≡ true)) = ih k in
        (suc t.0, (omega arith, t.1.1, t.1.2))

-- where each higher row passes its test in no more ticks than it can ask for, all together pass in no more than the sum
pub above_covers : (priority more n e : ℕ) (rs : List Record) (g : ℕ → ℕ → Bool)
    → ((p : ℕ) → p < length rs → (row rs p).priority < priority → tally (g p) e ≤ asks more n (row rs p))
    → tally (λ i. higher priority rs (λ p. g p i)) e ≤ above priority more n rs
above_covers priority more n e [] g each = omega (arith, tally_none (λ _. false) e (λ _ _. refl))
above_covers priority more n e (r ∷ rs) g each =
    go (above_covers priority more n e rs (λ p. g (suc p)) (λ p l low. each (suc p) (omega arith) low)) (ltb r.priority priority) refl
  where
    go : tally (λ i. higher priority rs (λ p. g (suc p) i)) e ≤ above priority more n rs → (b : Bool) → ltb r.priority priority ≡ b
        → tally (λ i. cond b (g 0 i) false || higher priority rs (λ p. g (suc p) i)) e ≤ cond b (asks more n r) 0 + above priority more n rs
    go ih true low =
        omega (
          arith,
          each 0 (omega arith) (ltb-true _ _ low),
          tally_joins (λ i. g 0 i || higher priority rs (λ p. g (suc p) i)) (g 0) (λ i. higher priority rs (λ p. g (suc p) i)) e (λ i l q. or_cases _ _ q),
        )
    go ih false low = omega arith
