use Rattle.tables.proofs.Sound.{sound}
use Rattle.tables.proofs.windows_hold.Goals as goal

pub returns : goal.returns
returns g c = sound _ _ (g.met.R.Rule.lawful c.args.rule.now)
