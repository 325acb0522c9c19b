-- Each turn of `rows_on` gathers a row if its item is on the resource.
use Rattle.std.proofs.Common.{◌≡◌, ◌<◌, List, ◌++◌, length, take, sym, ap, ◌∙◌, arith}
use Rattle.std.proofs.lemmas.Bool.{eq-eqb, ne_eqb}
use Rattle.service.specs.declared.Record.{Record}
use Rattle.items.specs.Items.{item_at}
use Rattle.tables.specs.Demands.{span, row_of}
use Rattle.consult.specs.Windows.{span_of, front}
use Rattle.consult.specs.Rows.{widened}
use Rattle.consult.proofs.Fronts.{front_length, front_read}
use Rattle.consult.proofs.Gathered.{gathered, passed, ended}
use Rattle.consult.proofs.rows.rows_on.Goals as goal
use Rattle.consult.proofs.rows.rows_on.Goals.{then-item-resource, else-item-resource}

pub loop-at-preserved : goal.loop-at-preserved
loop-at-preserved c =
    let xs = c.args.items.now in
    let ws = front (length xs) c.args.windows.now in
    let r = c.args.resource in
    let i = c.loop-at.at in
    let here = c.loop-at-test.true in
    let size : length ws ≡ length xs = front_length c.args.windows.now (length xs) c.requires.sized in
    elim c.if-item-resource.branch [
      | then-item-resource w ↦
          let n = c.loop-at.count in
          let room : n < length c.loop-at.rows = omega (arith, c.loop-at.invariant.0, c.loop-at.invariant.1, c.requires.few) in
          let window = w.index-windows-at.result in
          let spans : span ws i ≡ span_of window = front_read c.args.windows.now (length xs) i window c.requires.sized here ∙ ap span_of (sym w.index-windows-at.is) in (
            c.if-item-resource.array_long,
            omega (arith, w.count-is, c.loop-at.invariant.1),
            λ bits based.
                let value : w.widen.result ≡ row_of bits xs (item_at xs i) (span ws i) = w.widen.ensures ∙ (ap (widened (span_of window)) (based i here) ∙ ap (row_of bits xs (item_at xs i)) (sym spans)) in
                rw (w.rows-is, w.count-is) (gathered bits xs r xs ws size i n c.loop-at.rows w.widen.result here room (eq-eqb _ _ (omega (arith, w.if-item-resource.true))) value ∙ c.loop-at.invariant.2 bits based),
          )
      | else-item-resource w ↦ (
        c.if-item-resource.array_long,
        omega (arith, w.count-is, c.loop-at.invariant.1),
        λ bits based.
            rw (w.rows-is, w.count-is) (ap (λ (rs : List Record). take c.loop-at.count c.loop-at.rows ++ rs) (passed bits xs r xs ws size i here (ne_eqb _ _ (λ e. omega (arith, w.if-item-resource.false)))) ∙ c.loop-at.invariant.2 bits based),
      )
    ]

pub returns : goal.returns
returns c = record {
  count = omega (arith, c.loop-at.invariant.1);
  told = λ bits based.
      let xs = c.args.items.now in
      let ws = front (length xs) c.args.windows.now in
      sym (ended bits xs c.args.resource xs ws (front_length c.args.windows.now (length xs) c.requires.sized) c.loop-at.at (take c.loop-at.count c.loop-at.rows) c.loop-at-test.false)
      ∙ c.loop-at.invariant.2 bits based;
}
