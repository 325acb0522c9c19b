-- A plan that opens has the invariant.
use Rattle.std.proofs.Common.{◌≡◌}
use Rattle.items.specs.Journal.{fresh}
use Rattle.plan.specs.States.{state_of}
use Rattle.plan.proofs.Kept.{kept_open, accepted_from}
use Rattle.plan.proofs.Plan.open.Goals as goal

pub invariant_of-result : goal.invariant_of-result
invariant_of-result c =
    let state : state_of c.of.result c.empty.result c.empty-2.result ≡ fresh c.args.bit_times.now _ = λ i. record { bits = c.of.ensures i; items = c.empty.ensures i; journal = c.empty-2.ensures i } in
    record { kept = kept_open _ _ (accepted_from _ _ c.in_ok-check_open.ensures) state }
