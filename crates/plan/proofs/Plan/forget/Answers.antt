-- A plan without its journal begins with its items, which are valid.
use Rattle.std.proofs.Common.{ap}
use Rattle.plan.specs.Views.{view}
use Rattle.plan.proofs.Kept.{plan_valid, kept_fresh}
use Rattle.plan.proofs.Plan.forget.Goals as goal

pub invariant_of-self : goal.invariant_of-self
invariant_of-self c =
    let p = c.args.self.now in
    record { kept = kept_fresh _ _ _ (plan_valid p) (ap (λ es. record { bits = (view p).bits; items = (view p).items; journal = es }) c.empty-self.ensures) }
