use Rattle.std.proofs.Common.{◌≡◌, ℕ, ◌+◌, ◌-◌, ◌*◌, ◌/◌, ◌<◌, ◌≤◌, arith}
use Rattle.service.proofs.Checks.{rows_since}
use Rattle.rules.specs.Demands.{demanded, Full}
use Rattle.rules.proofs.Slopes.{slope_under, full_slopes, full_beyond}
use Rattle.rules.proofs.demand.sums.DemandStep.leap.Goals as goal

pub returns : goal.returns
returns c =
    let d = c.args.self.now in
    let rs = c.args.rows.now.records.now in
    let s : ℕ = c.slope-slope.result in
    let small : s < 4294967296 = omega (arith, c.slope-slope.ensures.value) in
    let under : (k : ℕ) → demanded d rs k ≡ k → c.from.result * 4294967296 / (4294967296 - s) ≤ k =
    λ k fixed. rw c.from.ensures (slope_under d s rs c.slope-slope.ensures.slow small k fixed) in
    let steep : Full d rs → 4294967296 ≤ s + 256 = λ full. omega (arith, full_slopes d rs (rows_since rs c.args.rows.now.workable.all) c.args.rows.now.workable.few full, c.slope-slope.ensures.value) in
    record { under = λ k fixed. omega (arith, under k fixed); beyond = λ full. rw c.from.ensures (full_beyond d.base s d.base_low small (steep full)) }
