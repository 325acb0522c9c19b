use Rattle.std.proofs.Common.{vec_items}
use Rattle.plan.specs.Views.{view}
use Rattle.visits.proofs.Following.{Upto}
use Rattle.visits.proofs.replay.list.replay.Given as goal

abbrev pub invariant-loop-told : goal.invariant-loop-told
invariant-loop-told g l =
    Upto g.R.Rule.allows g.R.Rule.numbers l.bit_times l.visits l.told-index (view l.plan) (vec_items l.answers)
