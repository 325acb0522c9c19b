-- The gap is opened and filled.
use Rattle.std.proofs.Common.{arith}
use Rattle.fronts.proofs.Gaps.{counted, gap_filled}
use Rattle.fronts.proofs.Front.insert.Goals as goal

pub returns : goal.returns
returns g c =
    let f = c.args.self.now in
    rw c.copy_within.ensures.after (gap_filled _ _ _ _ (omega (arith, counted f)) (omega (arith, counted f, f.whole)))
