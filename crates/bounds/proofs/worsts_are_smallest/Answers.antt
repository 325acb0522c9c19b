use Rattle.bounds.proofs.worsts_are_smallest.Goals as goal
use Rattle.bounds.proofs.Smallest.{worsts_are_smallest}

pub returns : goal.returns
returns c = worsts_are_smallest
