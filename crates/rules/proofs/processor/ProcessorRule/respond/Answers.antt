use Rattle.bounds.specs.Equations.{processor_worst}
use Rattle.rules.specs.Lawful.{own_answers}
use Rattle.rules.proofs.processor.ProcessorRule.respond.Goals as goal

pub returns-in-Ok : goal.returns-in-Ok
returns-in-Ok c = let own = own_answers processor_worst c.args.records.now c.args.place c.in-Ok.row c.in-Ok.ensures in record { least = cc; worst = cc }
