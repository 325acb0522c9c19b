-- Every allowed run keeps to the finish windows of a steady table.
use Rattle.std.proofs.Common.{◌≡◌, ℕ, zero, suc, ◌+◌, ◌-◌, ◌<◌, ◌≤◌, true, List, length, Some, sym, refl, ap, ◌∙◌, ⊎_elim, not-suc-le-zero, arith}
use Rattle.std.proofs.lemmas.Bool.{cases_lt}
use Rattle.service.specs.declared.Record.{Record}
use Rattle.service.specs.Traces.{Trace, Ready, Done, Finishes, Orderly}
use Rattle.service.specs.Rows.{row, Rows}
use Rattle.service.specs.Laws.{closes, OnTime}
use Rattle.items.specs.declared.Item.{Item}
use Rattle.items.specs.declared.Work.{Work}
use Rattle.items.specs.declared.Work.TheVariants.{Task, Frame}
use Rattle.items.specs.Items.{item_at}
use Rattle.items.specs.Conditions.{bit_time_of}
use Rattle.items.specs.Valid.{Valid, ValidWork}
use Rattle.tables.specs.Demands.{Span, span, least_of, items_on, place_on, place_of}
use Rattle.service.specs.Numbers.{Numbers}
use Rattle.tables.specs.Tables.{Steady, least_at, worst_at}
use Rattle.tables.specs.Runs.{seen_on, Allowed, Kept}
use Rattle.service.specs.Laws.{LawfulRule}
use Rattle.tables.specs.Stands.{FinishWindows, Sound}
use Rattle.tables.proofs.Places.{seat_item, rows_length, Sitter}
use Rattle.tables.proofs.Served.{had_rises, finished, finishes_seen, done_unseen, ready_unseen}
use Rattle.tables.proofs.Chains.{Link, head_or_link, place_found, arrivals_spaced}
use Rattle.tables.proofs.Rowed.{rows, sitter_of, sitter_row, place_below, rows_good}

-- how long after the arrivals the windows of the row at a place open
abbrev ahead : List Item → List Span → ℕ → ℕ → ℕ
ahead xs ws r p = (span ws (place_of (item_at (items_on r xs) p).number xs)).from

-- up to tick t releases fall into the windows of their items, and none is missing
record Keeps (xs : List Item) (ws : List Span) (run : Trace) (t : ℕ) : Type 0 where
  inside : (k a r : ℕ) → k < length xs → run.arrives (item_at xs k).number a ≡ true → run.release (item_at xs k).number a ≡ Some r → r ≤ t → (a + (span ws k).from ≤ r) × (r ≤ a + (span ws k).to)
  present : (k a : ℕ) → k < length xs → run.arrives (item_at xs k).number a ≡ true → a + (span ws k).to ≤ t → (r : ℕ) × ((run.release (item_at xs k).number a ≡ Some r) × (r ≤ a + (span ws k).to))

least_positive : (bit : ℕ) (w : Work) → ValidWork bit w → 1 ≤ least_of bit w
least_positive bit (Task low high) v = v.1
least_positive bit (Frame s) v = let b = v.0 in omega arith

-- a steady table
module _ (allows : ℕ → List Record → Trace → Type 0) (rule : Numbers) (laws : LawfulRule allows rule) (bits : List ℕ) (xs : List Item) (valid : Valid bits xs) (ws : List Span) (steady : Steady rule bits xs ws) where
  steady_rows : (r : ℕ) → Rows (rows bits xs ws r)
  steady_rows = rows_good bits xs ws steady.size rule (λ bit. (laws bit).unfit) valid steady.bounded

  -- a least is at least 1 and at most its worst
  steady_range : (k w : ℕ) → k < length xs → worst_at rule bits xs ws k ≡ Some w → (1 ≤ least_at rule bits xs ws k) × (least_at rule bits xs ws k ≤ w)
  steady_range k w h e =
      let r = (laws (bit_time_of bits (item_at xs k).resource)).ranged _ (steady_rows (item_at xs k).resource) (place_on xs k) (place_below bits xs ws steady.size k h) in
      (r.0.0, (r.1 w e).0)

  opens_within : (n k : ℕ) → k < n → k < length xs → (span ws k).from ≤ (span ws k).to
  opens_within zero k lt h = absurd (not-suc-le-zero lt)
  opens_within (suc n) k lt h =
      ⊎_elim
      (λ z. let e = steady.heads k h z in omega (arith, e.0))
      (λ l.
      let first : (span ws l.at).from ≤ (span ws l.at).to = opens_within n l.at (omega (arith, l.earlier)) l.below in
      let w = steady.bounded l.at l.below in
      let e = steady.links l.at k w.0 l.below h l.is w.1 in
      let g = steady_range l.at w.0 l.below w.1 in
      omega (arith, e.0, e.1, g.1))
      (head_or_link bits xs valid k h)

  -- a window opens before it closes
  pub opens : (k : ℕ) → k < length xs → (span ws k).from ≤ (span ws k).to
  opens k h = opens_within (length xs) k h h

  sitter_number : (r p : ℕ) (s : Sitter r xs p) → (item_at (items_on r xs) p).number ≡ (item_at xs s.at).number
  sitter_number r p s = ap (λ (x : Item). x.number) (rw s.place at (seat_item r xs s.at s.below s.on))

  sitter_ahead : (r p : ℕ) (s : Sitter r xs p) → ahead xs ws r p ≡ (span ws s.at).from
  sitter_ahead r p s = ap (λ (n : ℕ). (span ws (place_of n xs)).from) (sitter_number r p s) ∙ ap (λ (j : ℕ). (span ws j).from) (place_found xs valid.ascending s.at s.below)

  sitter_closes : (r p a : ℕ) (s : Sitter r xs p) → closes (rows bits xs ws r) (ahead xs ws r) p a ≡ a + (span ws s.at).to
  sitter_closes r p a s =
      let from = sitter_ahead r p s in
      let jitter : (row (rows bits xs ws r) p).jitter ≡ (span ws s.at).to - (span ws s.at).from = ap (λ (x : Record). x.jitter) (sitter_row bits xs ws steady.size r p s) in
      let le = opens s.at s.below in
      omega arith

  -- the item at k at its own place
  abbrev own : (k : ℕ) → k < length xs → Sitter (item_at xs k).resource xs (place_on xs k)
  own k h = record { at = k; below = h; on = refl; place = refl }

  -- one of its allowed runs
  module _ (run : Trace) (ok : Allowed allows bits xs ws run) where
    on_time : (t : ℕ) → Keeps xs ws run t → (r : ℕ) → OnTime (rows bits xs ws r) (seen_on xs r run) (ahead xs ws r) t
    on_time t keeps r = record {
      spaced = λ p a b h u v lt le.
          let s = sitter_of bits xs ws steady.size r p h in
          let n = sitter_number r p s in
          let period : (row (rows bits xs ws r) p).period ≡ _ = ap (λ (x : Record). x.period) (sitter_row bits xs ws steady.size r p s) in
          let far = arrivals_spaced bits xs valid allows ws run ok s.at s.below a b (rw n at u) (rw n at v) lt in
          rw period far;
      inside = λ p a i h u v le.
          let s = sitter_of bits xs ws steady.size r p h in
          let n = sitter_number r p s in
          let from = sitter_ahead r p s in
          let to = sitter_closes r p a s in
          let both = keeps.inside s.at a i s.below (rw n at u) (rw n at v) le in
          (omega (arith, both.0), omega (arith, both.1));
      present = λ p a h u le.
          let s = sitter_of bits xs ws steady.size r p h in
          let n = sitter_number r p s in
          let to = sitter_closes r p a s in
          let there = keeps.present s.at a s.below (rw n at u) (omega arith) in
          (there.0, (rw n there.1.0, omega (arith, there.1.1)));
    }

    orderly : (k : ℕ) → k < length xs → Orderly (length (rows bits xs ws (item_at xs k).resource)) (seen_on xs (item_at xs k).resource run)
    orderly k h =
        rw (rows_length bits xs (item_at xs k).resource xs ws steady.size)
        (ok.orderly (item_at xs k).resource (valid.each k h).resource_low (valid.each k h).resource_high)

    ruled : (k : ℕ) → k < length xs → allows (bit_time_of bits (item_at xs k).resource) (rows bits xs ws (item_at xs k).resource) (seen_on xs (item_at xs k).resource run)
    ruled k h = ok.ruled (item_at xs k).resource (valid.each k h).resource_low (valid.each k h).resource_high

    own_number : (k : ℕ) → k < length xs → (item_at (items_on (item_at xs k).resource xs) (place_on xs k)).number ≡ (item_at xs k).number
    own_number k h = sitter_number (item_at xs k).resource (place_on xs k) (own k h)

    -- a job that is served is ready, and the run lasts
    served : (k a t : ℕ) → k < length xs → run.serves (item_at xs k).number a t ≡ true → (t < run.ticks) × Ready run (item_at xs k).number a t
    served k a t h e =
        let n = own_number k h in
        let o = (orderly k h).ready (place_on xs k) a t (rw n e) in
        (o.1, ready_unseen xs (item_at xs k).resource run (place_on xs k) (item_at xs k).number n a t o.2)

    -- law 2, by item
    not_early : (k a r f : ℕ) → k < length xs → run.release (item_at xs k).number a ≡ Some r → Finishes run (item_at xs k).number a f → r + least_at rule bits xs ws k ≤ f
    not_early k a r f h e fin =
        let n = own_number k h in
        (laws (bit_time_of bits (item_at xs k).resource)).patient (rows bits xs ws (item_at xs k).resource) (seen_on xs (item_at xs k).resource run) (place_on xs k) a r f
        (steady_rows (item_at xs k).resource) (orderly k h) (ruled k h) (place_below bits xs ws steady.size k h) (rw n e)
        (finishes_seen xs (item_at xs k).resource run (place_on xs k) (item_at xs k).number n a f fin)

    -- law 1, by item
    not_late : (t k a w : ℕ) → Keeps xs ws run t → k < length xs → run.arrives (item_at xs k).number a ≡ true → worst_at rule bits xs ws k ≡ Some w → a + (span ws k).to + w ≤ t + 1 → a + (span ws k).to + w ≤ run.ticks → Done run (item_at xs k).number a (a + (span ws k).to + w)
    not_late t k a w keeps h here e soon lasts =
        let n = own_number k h in
        let c = sitter_closes (item_at xs k).resource (place_on xs k) a (own k h) in
        let done =
        (laws (bit_time_of bits (item_at xs k).resource)).bounded (rows bits xs ws (item_at xs k).resource) (seen_on xs (item_at xs k).resource run) (ahead xs ws (item_at xs k).resource) t (place_on xs k) a w
        (steady_rows (item_at xs k).resource) (orderly k h) (ruled k h) (on_time t keeps (item_at xs k).resource) (place_below bits xs ws steady.size k h) (rw n here) e (rw c soon) (rw c lasts)
        in
        done_unseen xs (item_at xs k).resource run (place_on xs k) (item_at xs k).number n a (a + (span ws k).to + w) (rw c at done)

    -- the job of an item's predecessor, of the same arrival
    link_arrives : (k a : ℕ) (l : Link xs k) → k < length xs → run.arrives (item_at xs k).number a ≡ true → run.arrives (item_at xs l.at).number a ≡ true
    link_arrives k a l h here = sym (ok.follows l.at k a l.below h l.is) ∙ here

    asks : (k a : ℕ) → k < length xs → run.arrives (item_at xs k).number a ≡ true → 1 ≤ run.demand (item_at xs k).number a
    asks k a h here =
        let low = least_positive (bit_time_of bits (item_at xs k).resource) (item_at xs k).work (valid.each k h).work in
        let high = ok.asks k a h here in
        omega arith

    -- a release at t falls into its window if the ticks before were kept
    step_inside : (t : ℕ) → (1 ≤ t → Keeps xs ws run (t - 1)) → (k a r : ℕ) → k < length xs → run.arrives (item_at xs k).number a ≡ true → run.release (item_at xs k).number a ≡ Some r → r ≤ t → (a + (span ws k).from ≤ r) × (r ≤ a + (span ws k).to)
    step_inside t before k a r h here out le = ⊎_elim head other (head_or_link bits xs valid k h)
      where
        head : (item_at xs k).predecessor ≡ 0 → (a + (span ws k).from ≤ r) × (r ≤ a + (span ws k).to)
        head z =
            let e = steady.heads k h z in
            let s = ok.heads k a h z here in
            let same : r ≡ s.0 = cc (out, s.1.0) in
            (omega (arith, e.0, s.1.1.0), omega (arith, e.1, s.1.1.1))

        other : Link xs k → (a + (span ws k).from ≤ r) × (r ≤ a + (span ws k).to)
        other l =
            let j = l.at in
            let fin = (ok.linked j k a r l.below h l.is).1 out in
            let kept = before (omega (arith, fin.next)) in
            let on = served j a fin.last l.below fin.served in
            let win = kept.inside j a on.1.at l.below (link_arrives k a l h here) on.1.released (omega (arith, on.1.by, fin.next)) in
            let early = not_early j a on.1.at r l.below on.1.released fin in
            let w = steady.bounded j l.below in
            let e = steady.links j k w.0 l.below h l.is w.1 in
            let low : a + (span ws k).from ≤ r = omega (arith, win.0, early, e.0) in
            let high : r ≤ a + (span ws k).to =
            ⊎_elim
            (λ late.
            let done = not_late (t - 1) j a w.0 kept l.below (link_arrives k a l h here) w.1 (omega (arith, e.1, late, fin.next)) (omega (arith, e.1, late, fin.next, on.0)) in
            let more = had_rises run (item_at xs j).number a (a + (span ws j).to + w.0) fin.last (omega (arith, e.1, late, fin.next)) in
            absurd (omega (arith, done, more, on.1.unfinished)))
            (λ fine. fine)
            (cases_lt (a + (span ws k).to) r)
            in
            (low, high)

    -- no release is missing when its window closes at t
    step_present : (t : ℕ) → t ≤ run.ticks → (1 ≤ t → Keeps xs ws run (t - 1)) → (k a : ℕ) → k < length xs → run.arrives (item_at xs k).number a ≡ true → a + (span ws k).to ≤ t → (r : ℕ) × ((run.release (item_at xs k).number a ≡ Some r) × (r ≤ a + (span ws k).to))
    step_present t lasts before k a h here le = ⊎_elim head other (head_or_link bits xs valid k h)
      where
        head : (item_at xs k).predecessor ≡ 0 → (r : ℕ) × ((run.release (item_at xs k).number a ≡ Some r) × (r ≤ a + (span ws k).to))
        head z =
            let e = steady.heads k h z in
            let s = ok.heads k a h z here in
            (s.0, (s.1.0, omega (arith, e.1, s.1.1.1)))

        other : Link xs k → (r : ℕ) × ((run.release (item_at xs k).number a ≡ Some r) × (r ≤ a + (span ws k).to))
        other l =
            let j = l.at in
            let w = steady.bounded j l.below in
            let e = steady.links j k w.0 l.below h l.is w.1 in
            let g = steady_range j w.0 l.below w.1 in
            let kept = before (omega (arith, e.1, g.0, g.1)) in
            let there = link_arrives k a l h here in
            let done = not_late (t - 1) j a w.0 kept l.below there w.1 (omega (arith, e.1, g.0, g.1)) (omega (arith, e.1)) in
            let fin = finished run (item_at xs j).number a (a + (span ws j).to + w.0) there (asks j a l.below there) done in
            (fin.at, ((ok.linked j k a fin.at l.below h l.is).0 fin.is, omega (arith, e.1, fin.by)))

    step : (t : ℕ) → t ≤ run.ticks → (1 ≤ t → Keeps xs ws run (t - 1)) → Keeps xs ws run t
    step t lasts before = record { inside = step_inside t before; present = step_present t lasts before }

    keeps : (t : ℕ) → t ≤ run.ticks → Keeps xs ws run t
    keeps zero lasts = step zero lasts (λ h. absurd (not-suc-le-zero h))
    keeps (suc t) lasts =
        let here : Keeps xs ws run t = keeps t (omega arith) in
        let e : suc t - 1 ≡ t = omega arith in
        step (suc t) lasts (λ h. rw e here)

    kept : (finish : ℕ → Span) → FinishWindows rule bits xs ws finish → Kept xs finish run
    kept finish windows =
        let all = keeps run.ticks (omega arith) in
        record {
          not_early = λ k a f h fin.
              let on = served k a fin.last h fin.served in
              let win = all.inside k a on.1.at h fin.arrived on.1.released (omega (arith, on.1.by, on.0)) in
              let early = not_early k a on.1.at f h on.1.released fin in
              omega (arith, win.0, windows.opens k h);
          not_late = λ k a h here lasts.
              let w = steady.bounded k h in
              let e : a + (finish k).to ≡ a + (span ws k).to + w.0 = omega (arith, windows.closes k w.0 h w.1) in
              rw e (not_late run.ticks k a w.0 all h here w.1 (omega arith) (omega arith));
        }

pub sound : (allows : ℕ → List Record → Trace → Type 0) (rule : Numbers) → LawfulRule allows rule → Sound allows rule
sound allows rule laws bits xs ws finish valid steady windows run ok = kept allows rule laws bits xs valid ws steady run ok finish windows
