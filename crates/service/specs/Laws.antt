-- What every service rule shows of the runs that it allows and of the two numbers that it answers.
use Rattle.std.specs.Prelude.{◌≡◌, ℕ, ◌+◌, ◌<◌, ◌≤◌, true, List, length, Some, None, Option}
use Rattle.service.specs.declared.Record.{Record}
use Rattle.service.specs.Traces.{Trace, Done, Finishes, Orderly}
use Rattle.service.specs.Rows.{row, IsRow, Fit, Rows, Looser}
use Rattle.service.specs.Numbers.{Numbers}

-- the tick at which the release window of a job closes, if its row's windows open `ahead` ticks after the arrivals
abbrev pub closes : List Record → (ℕ → ℕ) → ℕ → ℕ → ℕ
closes rs ahead p a = a + ahead p + (row rs p).jitter

-- up to tick t arrivals kept their distance, no release fell outside its window, and none was missing when its window closed
pub record OnTime (rs : List Record) (x : Trace) (ahead : ℕ → ℕ) (t : ℕ) : Type 0 where
  pub spaced : (p a b : ℕ) → p < length rs → x.arrives p a ≡ true → x.arrives p b ≡ true → a < b → b ≤ t → a + (row rs p).period ≤ b
  pub inside : (p a r : ℕ) → p < length rs → x.arrives p a ≡ true → x.release p a ≡ Some r → r ≤ t → (a + ahead p ≤ r) × (r ≤ closes rs ahead p a)
  pub present : (p a : ℕ) → p < length rs → x.arrives p a ≡ true → closes rs ahead p a ≤ t → (r : ℕ) × ((x.release p a ≡ Some r) × (r ≤ closes rs ahead p a))

abbrev pub Allows : Type 1
Allows = List Record → Trace → Type 0

-- a job is finished at most its worst after its release window closes
abbrev pub Bounded : Allows → (List Record → ℕ → Option ℕ) → Type 0
Bounded allows worst =
    (rs : List Record) (x : Trace) (ahead : ℕ → ℕ) (t p a w : ℕ) → Rows rs → Orderly (length rs) x → allows rs x → OnTime rs x ahead t
    → p < length rs → x.arrives p a ≡ true → worst rs p ≡ Some w
    → closes rs ahead p a + w ≤ t + 1 → closes rs ahead p a + w ≤ x.ticks → Done x p a (closes rs ahead p a + w)

-- no job is finished sooner than its least after its release
abbrev pub Patient : Allows → (List Record → ℕ → ℕ) → Type 0
Patient allows least =
    (rs : List Record) (x : Trace) (p a r f : ℕ) → Rows rs → Orderly (length rs) x → allows rs x → p < length rs → x.release p a ≡ Some r → Finishes x p a f
    → r + least rs p ≤ f

-- more jitter never lowers a worst, never turns none into a number and never alters a least
abbrev pub Rising : (List Record → ℕ → ℕ) → (List Record → ℕ → Option ℕ) → Type 0
Rising least worst =
    (rs ss : List Record) → Rows rs → Rows ss → Looser rs ss → (p : ℕ) → p < length rs
    → (least rs p ≡ least ss p) × ((w : ℕ) → worst ss p ≡ Some w → (v : ℕ) × ((worst rs p ≡ Some v) × (v ≤ w)))

-- the numbers are in range
abbrev pub Ranged : (List Record → ℕ → ℕ) → (List Record → ℕ → Option ℕ) → Type 0
Ranged least worst =
    (rs : List Record) → Rows rs → (p : ℕ) → p < length rs
    → ((1 ≤ least rs p) × (least rs p ≤ 20000000)) × ((w : ℕ) → worst rs p ≡ Some w → (least rs p ≤ w) × ((row rs p).jitter + w ≤ (row rs p).period))

-- what every rule answers to bad input: told a record that can be no row, none and 1, whatever else holds
abbrev pub Unfit : (List Record → ℕ → ℕ) → (List Record → ℕ → Option ℕ) → Type 0
Unfit least worst = (rs : List Record) (p q : ℕ) → q < length rs → (IsRow (row rs q) → ⊥) → (least rs p ≡ 1) × (worst rs p ≡ None)

-- asked of a place beyond the rows, none and 1
abbrev pub Beyond : (List Record → ℕ → ℕ) → (List Record → ℕ → Option ℕ) → Type 0
Beyond least worst = (rs : List Record) (p : ℕ) → Fit rs → length rs ≤ p → (least rs p ≡ 1) × (worst rs p ≡ None)

-- told more than 256 rows, none and the least demand
abbrev pub Crowded : (List Record → ℕ → ℕ) → (List Record → ℕ → Option ℕ) → Type 0
Crowded least worst = (rs : List Record) (p : ℕ) → Fit rs → p < length rs → 256 < length rs → (least rs p ≡ (row rs p).least) × (worst rs p ≡ None)

-- all of it, of the runs that a rule allows and its two numbers at one bit time
pub record Lawful (allows : Allows) (least : List Record → ℕ → ℕ) (worst : List Record → ℕ → Option ℕ) : Type 0 where
  pub bounded : Bounded allows worst
  pub patient : Patient allows least
  pub rising : Rising least worst
  pub ranged : Ranged least worst
  pub unfit : Unfit least worst
  pub beyond : Beyond least worst
  pub crowded : Crowded least worst

-- and so at every bit time
abbrev pub LawfulRule : (ℕ → Allows) → Numbers → Type 0
LawfulRule allows rule = (bit : ℕ) → Lawful (allows bit) (rule.least bit) (rule.worst bit)
