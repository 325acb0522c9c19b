-- The rows of a network's items stand in front.
use Rattle.consult.proofs.network.Network.rows_on.Goals as goal

pub returns : goal.returns
returns g c = c.rows_on-count.ensures.told c.args.self.now.bits.now c.args.self.now.based
