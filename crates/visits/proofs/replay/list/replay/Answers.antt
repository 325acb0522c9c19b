use Rattle.std.proofs.Common.{◌≡◌, ℕ, length, vec_items, arith}
use Rattle.plan.specs.Views.{view}
use Rattle.plan.proofs.Kept.{plan_kept}
use Rattle.visits.proofs.Following.{told_at, upto_none, upto_more, upto_all}
use Rattle.visits.proofs.replay.list.replay.Goals as goal

pub loop-told-init : goal.loop-told-init
loop-told-init g c = upto_none _ _ _ _ (view c.in_ok-plan.plan) (vec_items c.new-answers.result) c.new-answers.ensures.items c.in_ok-plan.ensures.1

pub loop-told-preserved : goal.loop-told-preserved
loop-told-preserved g c =
    let k : ℕ = c.loop-told.told-index in
    let v = c.told-item.result in
    upto_more _ _ _ _ k (view c.loop-told.plan) (view c.visit.new.plan) (vec_items c.loop-told.answers) (vec_items c.push.new.self) v c.in_ok-visit.field-0
    c.loop-told.invariant c.loop-told-test.true (plan_kept c.loop-told.plan) (told_at c.args.visits.now k v c.loop-told-test.true c.told-item.is) c.visit.ensures.state
    c.in_ok-visit.ensures.answer c.in_ok-push.ensures.items

pub returns : goal.returns
returns g c =
    let all : c.loop-told.told-index ≡ length c.args.visits.now = omega arith in
    (c.in_ok-plan.ensures.0, upto_all _ _ _ _ c.loop-told.told-index (view c.loop-told.plan) (vec_items c.loop-told.answers) c.loop-told.invariant all)
