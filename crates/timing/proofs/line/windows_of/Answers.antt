-- What the visit is answered, under a switch of 0 ticks.
use Rattle.std.proofs.Common.{◌≡◌, ℕ, List, subst}
use Rattle.items.specs.declared.Item.{Item}
use Rattle.plan.specs.Views.{view}
use Rattle.visits.specs.declared.visit.Answer.{Answer}
use Rattle.visits.specs.Answers.{SettleAnswered}
use Rattle.known.specs.Rule.{over}
use Rattle.timing.specs.Line.{allows_over}
use Rattle.timing.proofs.line.windows_of.Goals as goal

-- a settle under a switch that is known, and an answer that is
settles : (ticks : ℕ) (bits : List ℕ) (xs : List Item) (a b : Answer) → ticks ≡ 0 → a ≡ b
    → SettleAnswered (allows_over ticks) (over ticks) bits xs 10000 256 a → SettleAnswered (allows_over 0) (over 0) bits xs 10000 256 b
settles ticks bits xs a b none same done =
    subst (SettleAnswered (allows_over 0) (over 0) bits xs 10000 256) same (subst (λ n. SettleAnswered (allows_over n) (over n) bits xs 10000 256 a) none done)

pub returns-in-Settled : goal.returns-in-Settled
returns-in-Settled c = record {
  plan = view c.in-Ok.plan;
  reads = c.in-Ok.ensures;
  settles = settles c.line_rule.result.first.ticks _ _ _ _ c.line_rule.ensures c.in-Settled.is c.in_ok-sweeps.ensures.answer;
}

pub returns-in-Unsettled : goal.returns-in-Unsettled
returns-in-Unsettled c = record {
  plan = view c.in-Ok.plan;
  reads = c.in-Ok.ensures;
  settles = settles c.line_rule.result.first.ticks _ _ _ _ c.line_rule.ensures c.in-Unsettled.is c.in_ok-sweeps.ensures.answer;
}
