use Rattle.std.proofs.Common.{◌*◌, div-le_self, arith}
use Rattle.rules.proofs.demand.sums.steepness.Goals as goal

pub returns : goal.returns
returns c =
    let n = c.from.result * 4294967296 in
    record { value = cc; bound = omega (arith, div-le_self n c.from-2.result) }
