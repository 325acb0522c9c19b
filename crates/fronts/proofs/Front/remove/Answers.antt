-- The gap is closed.
use Rattle.std.proofs.Common.{arith}
use Rattle.fronts.proofs.Gaps.{counted, gap_closed}
use Rattle.fronts.proofs.Front.remove.Goals as goal

pub returns-clause-list : goal.returns-clause-list
returns-clause-list g c =
    let f = c.args.self.now in
    rw c.copy_within.ensures.after (gap_closed _ _ _ (omega (arith, counted f)) (omega (arith, f.whole, f.within)))
