-- What the sweeps come to, all in one.
use Rattle.std.proofs.Common.{◌≡◌, ℕ, ◌+◌, List, length, add-one, arith}
use Rattle.service.specs.declared.Record.{Record}
use Rattle.service.specs.Traces.{Trace}
use Rattle.items.specs.declared.Item.{Item}
use Rattle.items.specs.Valid.{Valid}
use Rattle.service.specs.Numbers.{Numbers}
use Rattle.tables.specs.Tables.{AllBounded, table, LeastSteady}
use Rattle.service.specs.Laws.{LawfulRule}
use Rattle.tables.specs.Stands.{Settling}
use Rattle.tables.proofs.Sound.{sound}
use Rattle.tables.proofs.Swept.{steady_since, unaltered, below, bounded}
use Rattle.tables.proofs.Ranges.{in_range, least_range, worst_range, opens_low}

module _ (allows : ℕ → List Record → Trace → Type 0) (rule : Numbers) (laws : LawfulRule allows rule) (bits : List ℕ) (xs : List Item) (valid : Valid bits xs) where
  least_steady : (n : ℕ) → AllBounded rule bits xs (table rule bits xs n) → table rule bits xs (n + 1) ≡ table rule bits xs n → LeastSteady rule bits xs (table rule bits xs n)
  least_steady n all same = record {
    steady = steady_since rule bits xs valid (table rule bits xs n) all (rw add-one at same);
    least = λ vs steady. below rule bits xs valid allows laws vs steady n;
  }

pub settling : (allows : ℕ → List Record → Trace → Type 0) (rule : Numbers) → LawfulRule allows rule → Settling allows rule
settling allows rule laws bits xs valid = record {
  steady = steady_since rule bits xs valid;
  unaltered = unaltered rule bits xs valid;
  below = λ n vs steady. below rule bits xs valid allows laws vs steady n;
  bounded = λ n vs steady. bounded rule bits xs valid allows laws vs steady n;
  none = λ n k h e vs steady.
      let w = bounded rule bits xs valid allows laws vs steady n k h in
      let z : ◌≡◌ {A = ℕ} 0 1 = cc (e, w.1) in
      omega arith;
  least = least_steady allows rule laws bits xs valid;
  true_windows = λ n all same finish windows.
      let least = least_steady allows rule laws bits xs valid n all same in
      record { least = least; windows = windows; kept = sound allows rule laws bits xs (table rule bits xs n) finish valid least.steady windows };
  in_range = in_range allows rule laws bits xs valid;
  least_range = least_range allows rule laws bits xs valid;
  worst_range = worst_range allows rule laws bits xs valid;
  opens_low = λ all k h. opens_low allows rule laws bits xs valid all (length xs) k h h;
}
