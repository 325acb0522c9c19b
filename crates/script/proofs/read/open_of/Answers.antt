use Rattle.std.proofs.Common.{◌+◌, vec_items, subst, arith}
use Rattle.words.specs.Misread.{WordWrong}
use Rattle.words.specs.Spoken.{Writes}
use Rattle.commands.specs.declared.fault.Field.TheVariants.{BitTime}
use Rattle.commands.specs.declared.fault.Form.TheVariants.{Open}
use Rattle.script.proofs.Bits.{bit_more, behind_first}
use Rattle.script.proofs.Reading.{misread}
use Rattle.script.proofs.read.open_of.Goals as goal

pub loop-word-preserved : goal.loop-word-preserved
loop-word-preserved c =
    let k = c.loop-word.word-index in
    let word = subst (λ w. Writes w c.in_ok-bit.bit) (behind_first c.args.words.now k) c.in_ok-bit.ensures.writes in
    bit_more c.args.words.now (vec_items c.loop-word.bits) (vec_items c.push.new.self) (k + 1) c.in_ok-bit.bit c.in_ok-push.ensures.items c.loop-word.invariant word

pub returns-in_err-bit : goal.returns-in_err-bit
returns-in_err-bit c =
    let k = c.loop-word.word-index in
    let word = subst (λ w. WordWrong 255 BitTime w c.in_err-bit.field-0.0) (behind_first c.args.words.now k) c.in_err-bit.ensures in
    misread c.args.words.now Open (k + 1) BitTime _ _ _ c.from_residual.ensures.1 (omega arith) word
