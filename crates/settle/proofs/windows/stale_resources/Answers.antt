-- One item more is of a marked resource, or its windows are as long.
use Rattle.std.proofs.Common.{◌≡◌, ◌+◌, ◌-◌, ◌<◌, Bool, true, List, length, set, sym, ap, ◌∙◌, subst, arith, length-set}
use Rattle.items.specs.Items.{item_at}
use Rattle.consult.specs.Windows.{spans_of, jitter_of}
use Rattle.settle.specs.Passes.{Marked}
use Rattle.consult.proofs.Fronts.{span_read}
use Rattle.settle.proofs.Stale.{marked_same, marked_more}
use Rattle.settle.proofs.windows.stale_resources.Goals as goal
use Rattle.settle.proofs.windows.stale_resources.Goals.{then-jitter, else-jitter}

pub loop-at-preserved : goal.loop-at-preserved
loop-at-preserved g c =
    let xs = c.args.network.now.items.now in
    let ws = c.args.windows.now in
    let vs = c.args.next.now in
    let i = c.loop-at.at in
    let stale = c.loop-at.stale in
    let Q : List Bool → Type 0 = λ marks. (length marks ≡ 16) × Marked xs (spans_of ws) (spans_of vs) marks (i + 1) in
    let bounds = c.args.network.now.valid.each i c.loop-at-test.true in
    let long = c.loop-at.invariant.0 in
    elim c.if-jitter.branch [
      | then-jitter w ↦
          let inside : (item_at xs i).resource - 1 < length stale = omega (arith, bounds.resource_low, bounds.resource_high, c.args.network.now.valid.resources_high) in
          let is : c.if-jitter.stale ≡ set stale ((item_at xs i).resource - 1) true = cc (w.stale-is, w.from.ensures) in
          subst Q (sym is)
          (length-set _ _ _ ∙ long, marked_more xs (spans_of ws) (spans_of vs) stale i c.loop-at.invariant.1 inside)
      | else-jitter w ↦
          let few = c.args.network.now.valid.size in
          let old = span_read ws i c.index-windows-at.result (omega arith) in
          let new = span_read vs i c.index-next-at.result (omega arith) in
          let same : c.jitter.result ≡ c.jitter-in-loop-at.result = w.if-jitter.false in
          subst Q (sym w.stale-is)
          (long, marked_same xs (spans_of ws) (spans_of vs) stale i c.loop-at.invariant.1 (ap jitter_of old ∙ sym c.jitter.ensures ∙ same ∙ c.jitter-in-loop-at.ensures ∙ sym (ap jitter_of new)))
    ]
