-- The bytes of a value are put behind those before it.
use Rattle.std.proofs.Common.{arith}
use Rattle.buffers.proofs.Each.{putting_more}
use Rattle.buffers.proofs.layouts.put_each.Goals as goal

pub loop-value-preserved : goal.loop-value-preserved
loop-value-preserved g c = putting_more g.L.Layout.bytes c.args.values.now _ _ _ _ _ _ c.loop-value-test.true c.value-item.is c.loop-value.invariant _ _ (omega arith) c.put-end.ensures.place c.put-end.ensures.bytes
