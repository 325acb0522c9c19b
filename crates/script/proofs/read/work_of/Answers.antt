use Rattle.std.proofs.Common.{arith}
use Rattle.commands.specs.declared.fault.Field.TheVariants as fields
use Rattle.script.proofs.Reading.{misread}
use Rattle.script.proofs.read.work_of.Goals as goal

pub returns-in_err-greatest-in-task-len2 : goal.returns-in_err-greatest-in-task-len2
returns-in_err-greatest-in-task-len2 c =
    misread c.args.numbers.now c.args.form 1 fields.Greatest _ _ _ c.from_residual-in_err-greatest-in-task-len2.ensures.1 (omega arith) c.in_err-greatest-in-task-len2.ensures
