use Rattle.std.proofs.Common.{◌+◌, vec_items}
use Rattle.words.specs.Spoken.{texts}
use Rattle.script.specs.Commands.{BitWords}
use Rattle.script.proofs.read.open_of.Given as goal

abbrev pub invariant-loop-word : goal.invariant-loop-word
invariant-loop-word l = BitWords (texts l.words) (l.word-index + 1) (vec_items l.bits)
