-- One row more is written, and no other is.
use Rattle.std.proofs.Common.{◌<◌, ◌≢◌, length, sym, ap, ◌∙◌, arith, get_or-set_other, get_or-set_same, below_more}
use Rattle.items.specs.Items.{item_at}
use Rattle.tables.specs.Demands.{Span}
use Rattle.consult.specs.Answers.{answer}
use Rattle.settle.specs.Rows.{row_for}
use Rattle.consult.proofs.Fronts.{span_read}
use Rattle.settle.proofs.sweeps.Sweeps.write.Goals as goal

pub loop-at-preserved : goal.loop-at-preserved
loop-at-preserved g c =
    let i = c.loop-at.at in
    let lt : i < length c.loop-at.table = omega arith in (
      below_more _ _
          (λ k h. let ne : k ≢ i = omega arith in rw get_or-set_other (c.loop-at.invariant.0 k h))
          (rw get_or-set_same (c.row_of.ensures ∙ ap (λ (w : Span). row_for (item_at c.args.self.now.network.now.items.now i).number w (answer c.args.self.now.answers i)) (sym (span_read c.args.self.now.windows i _ (omega arith))))),
      λ k h. let ne : k ≢ i = omega arith in rw get_or-set_other (c.loop-at.invariant.1 k (omega arith)),
    )
