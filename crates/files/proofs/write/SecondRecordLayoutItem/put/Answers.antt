-- What is put is the record.
use Rattle.std.proofs.Common.{subst}
use Rattle.buffers.specs.Fronts.{Pasted}
use Rattle.files.proofs.write.SecondRecordLayoutItem.put.Goals as goal

pub returns-clause-bytes : goal.returns-clause-bytes
returns-clause-bytes c = subst (λ l. Pasted c.args.at l c.args.buffer.now c.put.new.buffer) c.second_record.ensures c.put.ensures.bytes
