-- Each turn of `base_rows` writes one row.
use Rattle.std.proofs.Common.{◌≡◌, ◌<◌, ◌≢◌, length, ◌∙◌, arith, length-set, get_or-set_other, get_or-set_same, below_more}
use Rattle.items.specs.Items.{item_at}
use Rattle.tables.specs.Demands.{nowhere, row_of}
use Rattle.consult.proofs.rows.base_rows.Goals as goal

pub base_row-requires : goal.base_row-requires
base_row-requires c = c.requires.0.each c.loop-at.at c.loop-at-test.true

pub loop-at-preserved : goal.loop-at-preserved
loop-at-preserved c =
    let xs = c.args.items.now in
    let i = c.loop-at.at in
    let x = item_at xs i in
    let inside : i < length c.loop-at.base = omega (arith, c.requires.0.size) in
    let period = c.requires.1 i c.loop-at-test.true in
    let told : c.base_row.result ≡ row_of c.args.bits.now xs x nowhere = cc in (
      length-set _ _ _ ∙ c.loop-at.invariant.0,
      below_more _ _
          (λ k h. let ne : k ≢ i = omega arith in rw get_or-set_other (c.loop-at.invariant.1 k h))
          (get_or-set_same _ _ _ _ inside ∙ told),
    )
