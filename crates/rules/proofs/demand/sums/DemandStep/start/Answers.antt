use Rattle.std.proofs.Common.{rules, ◌≡◌, sym, subst}
use Rattle.service.proofs.Checks.{rows_since}
use Rattle.bounds.specs.Numbers.{Under}
use Rattle.rules.specs.Demands.{once, demanded}
use Rattle.rules.proofs.Slopes.{once_under}
use Rattle.rules.proofs.demand.sums.DemandStep.start.Goals as goal

pub returns-clause-under : goal.returns-clause-under
returns-clause-under c =
    let d = c.args.self.now in
    let rs = c.args.rows.now.records.now in
    let value : c.add_up.result ≡ once d rs = c.add_up.ensures (λ r. r.greatest) (λ w v is. search rules) in
    subst (Under (demanded d rs)) (sym value) (once_under d rs (rows_since rs c.args.rows.now.workable.all))
