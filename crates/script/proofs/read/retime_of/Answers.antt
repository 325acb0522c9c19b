use Rattle.std.proofs.Common.{◌-◌, length, arith}
use Rattle.words.specs.Spoken.{texts}
use Rattle.commands.specs.declared.fault.Form.TheVariants.{Retime}
use Rattle.script.specs.Commands.{Amiss}
use Rattle.script.proofs.Reading.{handed, within}
use Rattle.script.proofs.read.retime_of.Goals as goal

pub returns-in_err-work : goal.returns-in_err-work
returns-in_err-work c =
    let words = c.args.words.now in
    handed _ _ (Amiss Retime (texts words)) _ c.from_residual-in_err-work.ensures.1 (within words 3 (length words - 3) (omega arith) Retime _ c.in_err-work.ensures)
