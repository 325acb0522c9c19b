use Rattle.std.proofs.Common.{◌≡◌, ◌++◌, length, vec_items}
use Rattle.std.specs.Option.{option_map}
use Rattle.hexadecimal.specs.Digits.{unhex}
use Rattle.hexadecimal.proofs.bytes_of.Given as goal

abbrev pub invariant-loop-digits : goal.invariant-loop-digits
invariant-loop-digits l = option_map (λ rest. vec_items l.bytes ++ rest) (unhex l.digits) ≡ unhex l.word

abbrev pub decreases-loop-digits : goal.decreases-loop-digits
decreases-loop-digits l = length l.digits
