-- What a row waits for, as sums over the rows above it.
use Rattle.std.specs.Prelude.{◌≡◌, ℕ, ◌+◌, ◌*◌, ◌/◌, ◌^◌, ◌<◌, ◌≤◌, List, length}
use Rattle.service.specs.declared.Record.{Record}
use Rattle.service.specs.Rows.{row}
use Rattle.bounds.specs.Equations.{summed, above}
use Rattle.rules.specs.declared.demand.Demand.{Demand}

-- what a demand comes to in a stretch of n ticks
abbrev pub demanded : Demand → List Record → ℕ → ℕ
demanded d rs n = d.base + above d.priority d.more n rs

-- what it comes to at least: each higher row once
abbrev pub once : Demand → List Record → ℕ
once d rs = d.base + summed (λ r. r.greatest) d.priority rs

-- how steeply a row's demand rises, in parts of 2 ^ 32 a tick, rounded down
abbrev pub steep : Record → ℕ
steep r = r.greatest * 4294967296 / r.period

-- the slopes of the higher rows, all added up
abbrev pub slopes : Demand → List Record → ℕ
slopes d rs = summed steep d.priority rs

-- the higher rows alone fill the resource: they ask for all of some stretch that is a multiple of each of their periods
pub record Full (d : Demand) (rs : List Record) : Type 0 where
  pub stretch : ℕ
  pub some : 1 ≤ stretch
  pub whole : (q : ℕ) → q < length rs → (row rs q).priority < d.priority → (k : ℕ) × (stretch ≡ k * (row rs q).period)
  pub filled : stretch ≤ summed (λ r. stretch / r.period * r.greatest) d.priority rs

-- the sum over the higher rows rises by at least s / 2 ^ 32 a tick
abbrev pub RisesBy : Demand → List Record → ℕ → Type 0
RisesBy d rs s = (n : ℕ) → n * s ≤ 2 ^ 32 * above d.priority d.more n rs
