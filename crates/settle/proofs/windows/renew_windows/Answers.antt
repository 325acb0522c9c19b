-- One window more is new.
use Rattle.std.proofs.Common.{◌≡◌, ◌∙◌, arith, length-set, below_more}
use Rattle.consult.specs.Windows.{span_of, spans_of}
use Rattle.settle.specs.Passes.{after, window_by}
use Rattle.settle.proofs.Followers.{set_here, set_others, narrow_from}
use Rattle.settle.proofs.windows.renew_windows.Goals as goal

pub window_at-requires-clause-ready : goal.window_at-requires-clause-ready
window_at-requires-clause-ready g c = narrow_from after _ _ c.args.answers.now _ c.args.network.now.linked c.loop-at.at (omega arith) (c.requires c.loop-at.at (omega arith))

pub loop-at-preserved : goal.loop-at-preserved
loop-at-preserved g c =
    let xs = c.args.network.now.items.now in
    let i = c.loop-at.at in
    let new : span_of c.window_at.result ≡ window_by after xs (spans_of c.args.windows.now) c.args.answers.now i = c.window_at.ensures after (λ w a v e. e.2) in (
      length-set _ _ _ ∙ c.loop-at.invariant.0,
      below_more _ _ (λ k h. set_others c.loop-at.next i _ k h ∙ c.loop-at.invariant.1 k h) (set_here c.loop-at.next i _ (omega (arith, c.args.network.now.valid.size)) ∙ new),
    )
