use Rattle.std.proofs.Common.{◌≡◌, length, take}
use Rattle.rules.specs.Switches.{all_longer}
use Rattle.rules.proofs.switch.rows.lengthen.Given as goal

abbrev pub invariant-loop-at : goal.invariant-loop-at
invariant-loop-at l = (length l.scratch ≡ 256) × (take l.at l.scratch ≡ all_longer l.ticks (take l.at l.rows.records.now))
