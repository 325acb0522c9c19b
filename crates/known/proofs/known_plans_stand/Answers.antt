-- Each is computed.
use Rattle.known.proofs.Plans.{plans}
use Rattle.known.proofs.known_plans_stand.Goals as goal

pub returns : goal.returns
returns c = plans
