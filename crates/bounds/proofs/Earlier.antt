-- The bound for one job, and what it says of the earlier jobs of its row: both rules prove it by induction over the arrivals.
use Rattle.std.proofs.Common.{◌≡◌, ℕ, zero, suc, ◌+◌, ◌<◌, ◌≤◌, true, List, length, arith}
use Rattle.service.specs.declared.Record.{Record}
use Rattle.service.specs.Rows.{row}
use Rattle.service.specs.Traces.{Trace, Done}
use Rattle.service.specs.Laws.{closes}
use Rattle.bounds.proofs.Jobs.{had_rises}
use Rattle.bounds.proofs.Stretches.{Run, Served, served}

-- what holds of a number if it holds of all below it holds of every number
pub by_earlier : (P : ℕ → Type 0) → ((a : ℕ) → ((c : ℕ) → c < a → P c) → P a) → (a : ℕ) → P a
by_earlier P step a = below (suc a) a (omega arith)
  where
    below : (fuel c : ℕ) → c < fuel → P c
    below zero c small = absurd (omega arith)
    below (suc fuel) c small = step c (λ d less. below fuel d (omega arith))

-- the job of the row m that arrives at a is done w ticks after its release window closes
abbrev pub Meets : List Record → Trace → (ℕ → ℕ) → ℕ → ℕ → ℕ → ℕ → Type 0
Meets rs x ahead t m w a =
    x.arrives m a ≡ true → closes rs ahead m a + w ≤ t + 1 → closes rs ahead m a + w ≤ x.ticks → Done x m a (closes rs ahead m a + w)

-- an earlier job of the row is not served once the window of a later one is open
pub earlier_done : (rs : List Record) (x : Trace) (ahead : ℕ → ℕ) (t : ℕ) → Run rs x ahead t → (m w : ℕ) → m < length rs → (row rs m).jitter + w ≤ (row rs m).period
    → (a b i : ℕ) → x.arrives m a ≡ true → ((c : ℕ) → c < a → Meets rs x ahead t m w c) → b < a → a + ahead m ≤ i → i ≤ t → x.serves m b i ≡ true → ⊥
earlier_done rs x ahead t run m w place fits a b i arrived earlier less open_by early s =
    let v : Served rs x ahead m b i = served rs x ahead t run m b i early s in
    let apart : b + (row rs m).period ≤ a = run.on_time.spaced m b a place v.arrived arrived less (omega arith) in
    let done : Done x m b (closes rs ahead m b + w) = earlier b less v.arrived (omega arith) (omega (arith, v.lasting)) in
    omega (arith, v.unfinished, had_rises x m b (closes rs ahead m b + w) i (omega arith))
