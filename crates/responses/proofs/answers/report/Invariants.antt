use Rattle.std.proofs.Common.{◌≡◌, ◌+◌, ◌++◌, drop, string_bytes}
use Rattle.responses.specs.Answered.{answer_lines}
use Rattle.responses.proofs.answers.report.Given as goal

abbrev pub invariant-loop-at : goal.invariant-loop-at
invariant-loop-at l = string_bytes l.text ++ answer_lines (l.at + 1) (drop l.at l.answers) ≡ answer_lines 1 l.answers
