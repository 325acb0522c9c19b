use Rattle.std.proofs.Common.{◌≡◌, ℕ, ap}
use Rattle.rules.specs.Switches.{switched_least, switched_worst}
use Rattle.rules.specs.Switched.{no_ticks}
use Rattle.rules.proofs.switch.rule.SwitchRule.respond.Goals as goal

pub returns-then-self-eq0 : goal.returns-then-self-eq0
returns-then-self-eq0 g c =
    let s = c.args.self.now in
    let bit = c.args.bit_time in
    let rs = c.args.records.now in
    let p = c.args.place in
    let least = (g.R.Rule.numbers s.below).least bit in
    let worst = (g.R.Rule.numbers s.below).worst bit in
    let may = g.R.Rule.allows s.below bit in
    let same = no_ticks may least worst (g.met.R.Rule.lawful s.below bit) rs p in
    let none : s.ticks ≡ 0 = c.if-self-eq0.true in
    let by-least = ap (λ (n : ℕ). switched_least n least rs p) none in
    let by-worst = ap (λ (n : ℕ). switched_worst n worst rs p) none in
    record { least = cc; worst = cc }
