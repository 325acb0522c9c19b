-- Tests that compute what the sweeps of a table come to, and what holds where they pass.
use Rattle.std.proofs.Common.{◌≡◌, ℕ, zero, suc, ◌+◌, ◌<◌, ◌≤◌, Bool, true, false, not, ◌&&◌, eqb, ltb, List, [], ◌∷◌, map, length, is_some, Some, None, Option, sym, refl, ap, ◌∙◌, ⊎_elim, not-suc-le-zero, add-one, arith}
use Rattle.std.proofs.lemmas.Bool.{and_parts, and_from, not-true, both_ways, false≢true, ltb-true, eqb-true, eq-eqb, cases_eq}
use Rattle.std.proofs.lemmas.List.FromFn.{length-map-range_with_len, get_or-map-range_with_len}
use Rattle.std.specs.List.{range_with_len}
use Rattle.items.specs.declared.Item.{Item}
use Rattle.tables.specs.Demands.{Span, nowhere, span}
use Rattle.service.specs.Numbers.{Numbers}
use Rattle.tables.specs.Tables.{worst_or_0, least_at, worst_at, AllBounded, swept, table}
use Rattle.tables.specs.Stands.{FinishWindows}
use Rattle.settle.specs.Settled.{Moving, Still, Lowest}

-- whether a test passes at every place below n
abbrev all_below : (ℕ → Bool) → ℕ → Bool
all_below f zero = true
all_below f (suc n) = all_below f n && f n

below_since : (f : ℕ → Bool) (n : ℕ) → all_below f n ≡ true → (k : ℕ) → k < n → f k ≡ true
below_since f zero h k lt = absurd (not-suc-le-zero lt)
below_since f (suc n) h k lt =
    let both = and_parts (all_below f n) (f n) h in
    ⊎_elim (λ e. rw e both.1) (λ ne. below_since f n both.0 k (omega arith)) (cases_eq k n)

some_since : (o : Option ℕ) → is_some o ≡ true → (w : ℕ) × (o ≡ Some w)
some_since None h = absurd (false≢true h)
some_since (Some w) h = (w, refl)

none_since : (o : Option ℕ) → is_some o ≡ false → o ≡ None
none_since None h = refl
none_since (Some w) h = absurd (false≢true (sym h))

-- whether two tables are the same
abbrev same : List Span → List Span → Bool
same [] [] = true
same [] (v ∷ vs) = false
same (w ∷ ws) [] = false
same (w ∷ ws) (v ∷ vs) = eqb w.from v.from && (eqb w.to v.to && same ws vs)

same_since : (ws vs : List Span) → same ws vs ≡ true → ws ≡ vs
same_since [] [] h = refl
same_since [] (v ∷ vs) h = absurd (false≢true h)
same_since (w ∷ ws) [] h = absurd (false≢true h)
same_since (w ∷ ws) (v ∷ vs) h =
    let both = and_parts (eqb w.from v.from) (eqb w.to v.to && same ws vs) h in
    let rest = and_parts (eqb w.to v.to) (same ws vs) both.1 in
    let from = eqb-true w.from v.from both.0 in
    let to = eqb-true w.to v.to rest.0 in
    let tail = same_since ws vs rest.1 in
    λ i. record { from = from i; to = to i } ∷ tail i

same_itself : (ws : List Span) → same ws ws ≡ true
same_itself [] = refl
same_itself (w ∷ ws) = and_from _ _ (eq-eqb w.from w.from refl) (and_from _ _ (eq-eqb w.to w.to refl) (same_itself ws))

differ_since : (ws vs : List Span) → same ws vs ≡ false → ws ≡ vs → ⊥
differ_since ws vs h e = both_ways (same ws vs) h (ap (λ (us : List Span). same ws us) (sym e) ∙ same_itself ws)

module _ (rule : Numbers) (bits : List ℕ) (xs : List Item) where
  -- whether each of the first n items has a worst
  abbrev bounds : List Span → ℕ → Bool
  bounds ws n = all_below (λ k. is_some (worst_at rule bits xs ws k)) n

  bounds_since : (ws : List Span) (n : ℕ) → bounds ws n ≡ true → (k : ℕ) → k < n → (w : ℕ) × (worst_at rule bits xs ws k ≡ Some w)
  bounds_since ws n h k lt = some_since (worst_at rule bits xs ws k) (below_since (λ j. is_some (worst_at rule bits xs ws j)) n h k lt)

  -- whether a sweep gives every item a worst and alters nothing
  abbrev pub rests : List Span → Bool
  rests ws = bounds ws (length xs) && same (swept rule bits xs ws) ws

  -- whether each of n sweeps gives every item a worst and alters a window
  abbrev pub moves : ℕ → List Span → Bool
  moves zero ws = true
  moves (suc n) ws = bounds ws (length xs) && (not (same (swept rule bits xs ws) ws) && moves n (swept rule bits xs ws))

  moves_since : (n m : ℕ) → moves n (table rule bits xs m) ≡ true → (j : ℕ) → m ≤ j → j < m + n
      → AllBounded rule bits xs (table rule bits xs j) × (table rule bits xs (j + 1) ≡ table rule bits xs j → ⊥)
  moves_since zero m h j low high = absurd (omega arith)
  moves_since (suc n) m h j low high =
      let ws = table rule bits xs m in
      let both = and_parts (bounds ws (length xs)) (not (same (swept rule bits xs ws) ws) && moves n (swept rule bits xs ws)) h in
      let rest = and_parts (not (same (swept rule bits xs ws) ws)) (moves n (swept rule bits xs ws)) both.1 in
      ⊎_elim
      (λ e. rw e (bounds_since ws (length xs) both.0, λ still. differ_since (swept rule bits xs ws) ws (not-true _ rest.0) (rw add-one at still)))
      (λ ne. moves_since n (suc m) rest.1 j (omega arith) (omega arith))
      (cases_eq j m)

  pub moving : (n : ℕ) → moves n (table rule bits xs 0) ≡ true → Moving rule bits xs n
  moving n h = record { bounded = λ m lt. (moves_since n 0 h m (omega arith) (omega arith)).0; altered = λ m lt. (moves_since n 0 h m (omega arith) (omega arith)).1 }

  pub still : (n : ℕ) → moves n (table rule bits xs 0) ≡ true → rests (table rule bits xs n) ≡ true → Still rule bits xs n
  still n before h =
      let ws = table rule bits xs n in
      let both = and_parts (bounds ws (length xs)) (same (swept rule bits xs ws) ws) h in
      record { before = moving n before; bounded = bounds_since ws (length xs) both.0; same = rw add-one (same_since (swept rule bits xs ws) ws both.1) }

  -- whether the item at a place is the lowest without a worst
  abbrev pub fails : List Span → ℕ → Bool
  fails ws at = ltb at (length xs) && (not (is_some (worst_at rule bits xs ws at)) && bounds ws at)

  pub lowest : (ws : List Span) (at : ℕ) → fails ws at ≡ true → Lowest rule bits xs ws at
  lowest ws at h =
      let both = and_parts (ltb at (length xs)) (not (is_some (worst_at rule bits xs ws at)) && bounds ws at) h in
      let rest = and_parts (not (is_some (worst_at rule bits xs ws at))) (bounds ws at) both.1 in
      record { within = ltb-true at (length xs) both.0; none = none_since (worst_at rule bits xs ws at) (not-true _ rest.0); before = bounds_since ws at rest.1 }

  -- the finish windows of a table
  abbrev pub finished : List Span → List Span
  finished ws = map (λ k. record { from = (span ws k).from + least_at rule bits xs ws k; to = (span ws k).to + worst_or_0 (worst_at rule bits xs ws k) }) (range_with_len 0 (length xs))

  pub finished_size : (ws : List Span) → length (finished ws) ≡ length xs
  finished_size ws = length-map-range_with_len _ 0 (length xs)

  pub finished_windows : (ws : List Span) → FinishWindows rule bits xs ws (λ k. span (finished ws) k)
  finished_windows ws = record {
    opens = λ k h. ap (λ (v : Span). v.from) (at k h);
    closes = λ k w h e. ap (λ (v : Span). v.to) (at k h) ∙ ap (λ (o : Option ℕ). (span ws k).to + worst_or_0 o) e;
  }
    where
      at : (k : ℕ) → k < length xs → span (finished ws) k ≡ record { from = (span ws k).from + least_at rule bits xs ws k; to = (span ws k).to + worst_or_0 (worst_at rule bits xs ws k) }
      at k h = get_or-map-range_with_len _ 0 (length xs) k k nowhere h (omega arith)
