use Rattle.std.proofs.Common.{◌∙◌}
use Rattle.files.proofs.Numbers.{number_word}
use Rattle.files.proofs.words.u16_at.Goals as goal

pub returns : goal.returns
returns c = c.read_u16.ensures ∙ number_word 2 c.args.at c.args.bytes.now c.requires
