use Rattle.words.specs.Spoken.{texts}
use Rattle.words.proofs.Spoken.{no_word}
use Rattle.script.specs.Fields.{Misread}
use Rattle.script.proofs.Reading.{handed, misread_got}
use Rattle.script.proofs.read.number_at.Goals as goal

pub returns-in_err-number_of-in-Some : goal.returns-in_err-number_of-in-Some
returns-in_err-number_of-in-Some c =
    let words = c.args.words.now in
    let got = c.in-Some.ensures.lookup.3 in
    handed _ _ (Misread (texts words)) _ c.from_residual.ensures.1 (misread_got words c.args.at _ c.args.field _ got.0 (got.1 no_word) c.in_err-number_of-in-Some.ensures)
