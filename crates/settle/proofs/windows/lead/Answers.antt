-- One window more is that of the first table.
use Rattle.std.proofs.Common.{◌≡◌, ◌<◌, length, sym, ap, ◌∙◌, arith, length-set, below_more}
use Rattle.tables.specs.Demands.{Span, span}
use Rattle.consult.specs.Windows.{span_of, spans_of}
use Rattle.settle.specs.Passes.{lead_after, window_by}
use Rattle.settle.proofs.Followers.{set_here, set_others, by_earlier, lead_low, lead_narrow, narrow_from}
use Rattle.settle.proofs.windows.lead.Goals as goal

pub window_at-requires-clause-ready : goal.window_at-requires-clause-ready
window_at-requires-clause-ready g c =
    let low = lead_narrow _ _ c.args.network.now.valid c.args.answers.now c.loop-at.at (spans_of c.loop-at.windows) (omega arith) c.requires c.loop-at.invariant.2 in
    narrow_from lead_after _ _ c.args.answers.now _ c.args.network.now.linked c.loop-at.at (omega arith) low

pub loop-at-preserved : goal.loop-at-preserved
loop-at-preserved g c =
    let xs = c.args.network.now.items.now in
    let valid = c.args.network.now.valid in
    let answers = c.args.answers.now in
    let ws = c.loop-at.windows in
    let i = c.loop-at.at in
    let within : i < length xs = omega arith in
    let others = set_others ws i c.window_at.result in
    let new : span_of c.window_at.result ≡ window_by lead_after xs (spans_of ws) answers i = c.window_at.ensures lead_after (λ w a v e. e.2) in
    let here : span (spans_of _) i ≡ window_by lead_after xs (spans_of ws) answers i = set_here ws i c.window_at.result (omega (arith, valid.size)) ∙ new in (
      length-set _ _ _ ∙ c.loop-at.invariant.0,
      below_more _ _
          (λ k h. others k h ∙ c.loop-at.invariant.1 k h ∙ by_earlier _ xs valid answers k lead_after _ _ (omega arith) (λ j hj. sym (others j (omega arith))))
          (here ∙ by_earlier _ xs valid answers i lead_after _ _ within (λ j hj. sym (others j hj))),
      below_more _ _
          (λ k h. let e = ap (λ (w : Span). w.from) (others k h) in let low = c.loop-at.invariant.2 k h in omega arith)
          (let e = ap (λ (w : Span). w.from) here in
          let low = lead_low _ xs valid answers i (spans_of ws) within c.requires c.loop-at.invariant.2 in
          omega arith),
    )
