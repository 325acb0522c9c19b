use Rattle.plan.specs.Views.{view}
use Rattle.layout.proofs.Records.{SoFar}
use Rattle.files.proofs.read.read.Given as goal

abbrev pub invariant-loop-place : goal.invariant-loop-place
invariant-loop-place l = SoFar l.file.bytes.now (view l.plan) l.place
