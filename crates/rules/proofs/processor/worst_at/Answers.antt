use Rattle.std.proofs.Common.{◌≡◌, ℕ, ◌+◌, Option, ap, ◌∙◌}
use Rattle.service.specs.declared.Record.{Record}
use Rattle.bounds.specs.Numbers.{solution}
use Rattle.bounds.specs.Equations.{above, fitting}
use Rattle.bounds.proofs.Smallest.{plus_none}
use Rattle.rules.proofs.processor.worst_at.Goals as goal

pub returns : goal.returns
returns c =
    let rs = c.args.meant.rows.records.now in
    let worst : Record → Option ℕ = λ r. fitting r (solution (λ n. r.greatest + above r.priority 0 n rs) r.period) in
    let w = c.row-row.result.told in
    let alone = plus_none (solution (λ n. w.greatest + above w.priority 0 n rs) w.period) in
    let here : c.response.result ≡ worst w = cc in
    here ∙ ap worst c.row-row.ensures
