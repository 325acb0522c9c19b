use Rattle.tables.proofs.Settling.{settling}
use Rattle.tables.proofs.sweeps_settle.Goals as goal

pub returns : goal.returns
returns g c = settling _ _ (g.met.R.Rule.lawful c.args.rule.now)
