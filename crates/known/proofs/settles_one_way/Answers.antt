-- By the lemma.
use Rattle.known.proofs.Once.{one_way}
use Rattle.known.proofs.settles_one_way.Goals as goal

pub returns : goal.returns
returns c = one_way
