-- What was written is the file of the plan, and of no other.
use Rattle.std.proofs.Common.{◌≡◌, ◌-◌, take, sym}
use Rattle.items.specs.Journal.{State}
use Rattle.plan.specs.Views.{view}
use Rattle.plan.proofs.Kept.{plan_valid}
use Rattle.buffers.proofs.Fronts.{taken_front}
use Rattle.layout.specs.Format.{file_of}
use Rattle.files.proofs.again.reread.Goals as goal
use Rattle.files.proofs.again.reread.Goals.{In_ok-size}

-- the front of the buffer
front : (c : In_ok-size) → take (c.in_ok-size.size - 0) c.write.new.buffer ≡ file_of (view c.args.plan.now).bits (view c.args.plan.now).items
front c =
    let written = c.in_ok-size.ensures in
    taken_front _ c.args.buffer.now c.write.new.buffer c.in_ok-size.size written.0 written.2

pub unreachable-requires : goal.unreachable-requires
unreachable-requires c = let p = c.args.plan.now in c.in-Err.ensures.1 (view p).bits (view p).items (plan_valid p) (front (goal.at.unreachable-requires c).In_ok-size)

pub returns : goal.returns
returns c =
    let p = c.args.plan.now in
    let reads = c.in-Ok.ensures in
    let same = reads.only (view p).bits (view p).items (plan_valid p) (front (goal.at.returns c).In_ok-size) in
    let s : State = view c.in-Ok.same in
    λ i. record { bits = sym same.0 i; items = sym same.1 i; journal = reads.journal i }
