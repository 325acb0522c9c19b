-- The bytes of the values so far are put, and the next go to their end.
use Rattle.buffers.proofs.Each.{Putting}
use Rattle.buffers.proofs.layouts.put_each.Given as goal

abbrev pub invariant-loop-value : goal.invariant-loop-value
invariant-loop-value g l = Putting g.L.Layout.bytes l.values l.at l.end l.value-index l.initial.buffer l.buffer
