use Rattle.std.proofs.Common.{vec_items}
use Rattle.std.specs.Str.Iter.{lines_rest}
use Rattle.listing.proofs.Sofar.{Sofar}
use Rattle.listing.proofs.text.resource_of.Given as goal

abbrev pub invariant-loop-at : goal.invariant-loop-at
invariant-loop-at l = Sofar l.text (lines_rest l.at-iterator.iter) l.reader.bit_time (vec_items l.reader.records)
