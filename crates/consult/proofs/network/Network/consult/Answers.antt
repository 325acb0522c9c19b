-- With every resource marked, every item has its answer.
use Rattle.consult.proofs.Reused.{all_marked}
use Rattle.consult.proofs.network.Network.consult.Goals as goal

pub returns : goal.returns
returns g c =
    let marked = all_marked _ _ c.args.self.now.valid in
    record { least = λ k h. c.renew.ensures.least k h (marked k h); worst = λ k h. c.renew.ensures.worst k h (marked k h) }
