-- Before it has its items a network is one of none.
use Rattle.consult.proofs.Links.{valid_none}
use Rattle.consult.proofs.network.Network.new.Goals as goal

pub of_none-network-requires : goal.of_none-network-requires
of_none-network-requires g c = valid_none c.args.bits.now c.args.items.now c.requires
