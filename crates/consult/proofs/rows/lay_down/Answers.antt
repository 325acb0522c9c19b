-- Each turn of `lay_down` lays down one link and one row, with the period of the item itself or of its predecessor's row.
use Rattle.std.proofs.Common.{◌≡◌, ℕ, ◌<◌, ◌≢◌, length, sym, ap, ◌∙◌, arith, length-set, get_or-set_other, get_or-set_same, below_more}
use Rattle.service.specs.declared.Record.{Record}
use Rattle.service.specs.Rows.{row}
use Rattle.items.specs.Items.{item_at}
use Rattle.tables.specs.Demands.{nowhere, row_of, period_of}
use Rattle.consult.proofs.Links.{own_period, before}
use Rattle.consult.proofs.rows.lay_down.Goals as goal
use Rattle.consult.proofs.rows.lay_down.Goals.{in-Some, in-None}

pub loop-at-preserved : goal.loop-at-preserved
loop-at-preserved c =
    let bits = c.args.bits.now in
    let xs = c.args.items.now in
    let i = c.loop-at.at in
    let here = c.loop-at-test.true in
    let inside : i < length c.loop-at.base = omega (arith, c.requires.size) in
    let room : i < length c.loop-at.places = omega (arith, c.requires.size) in
    let value : c.match-link.period ≡ period_of xs (item_at xs i) =
    elim c.match-link.branch [
      | in-Some w ↦
          let b = before bits xs c.requires i w.in-Some.place here (sym c.link_at-link.ensures ∙ w.in-Some.is) in
          w.period-is ∙ ap (λ (n : ℕ). (row c.loop-at.base n).period) w.from.ensures ∙ ap (λ (r : Record). r.period) (c.loop-at.invariant.3 w.in-Some.place b.earlier) ∙ sym b.period
      | in-None w ↦ w.period-is ∙ sym (own_period bits xs c.requires i here (sym c.link_at-link.ensures ∙ w.in-None.is))
    ]
    in
    let told : c.base_row.result ≡ row_of bits xs (item_at xs i) nowhere = cc (c.base_row.ensures, value) in (
      length-set _ _ _ ∙ c.loop-at.invariant.0,
      length-set _ _ _ ∙ c.loop-at.invariant.1,
      below_more _ _
          (λ k h. let ne : k ≢ i = omega arith in rw get_or-set_other (c.loop-at.invariant.2 k h))
          (get_or-set_same _ _ _ _ room ∙ c.link_at-link.ensures),
      below_more _ _
          (λ k h. let ne : k ≢ i = omega arith in rw get_or-set_other (c.loop-at.invariant.3 k h))
          (get_or-set_same _ _ _ _ inside ∙ told),
    )
