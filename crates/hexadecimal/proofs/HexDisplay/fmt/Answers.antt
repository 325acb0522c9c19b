use Rattle.std.proofs.Common.{arith}
use Rattle.hexadecimal.proofs.Pairs.{put_byte}
use Rattle.hexadecimal.proofs.HexDisplay.fmt.Goals as goal

pub loop-byte-preserved : goal.loop-byte-preserved
loop-byte-preserved g c plain =
    put_byte g.W.Write.write_str_gives c.args.f.now c.loop-byte.f c.write.new.self c.in_radix.result c.laid_out.result c.args.self.now.0.now c.loop-byte.byte-index
    c.loop-byte-test.true (omega arith) c.in_radix.ensures c.laid_out.ensures (c.loop-byte.invariant plain) c.in_ok-write.ensures.writes
