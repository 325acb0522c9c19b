-- The window of the item at a place, a head or not.
use Rattle.std.proofs.Common.{◌≡◌, Some, sym, ap, ◌∙◌, arith}
use Rattle.items.specs.Items.{item_at}
use Rattle.tables.specs.Demands.{Span}
use Rattle.consult.specs.Chains.{link}
use Rattle.consult.specs.Windows.{spans_of}
use Rattle.consult.proofs.Fronts.{span_read}
use Rattle.consult.specs.Answers.{answer}
use Rattle.settle.specs.Passes.{window_from}
use Rattle.settle.proofs.windows.window_at.Goals as goal
use Rattle.settle.proofs.Followers.{link_low}

pub after-requires : goal.after-requires
after-requires g c =
    let is : link c.args.network.now.links c.args.at ≡ Some c.from-place.result = c.in-Some.is ∙ ap Some (sym c.from-place.ensures) in
    let low = link_low _ _ c.args.network.now.valid _ c.args.network.now.linked c.args.at c.requires.within c.from-place.result is in
    c.requires.ready c.from-place.result _ is (sym (span_read c.args.windows.now c.from-place.result c.index-windows-place.result (omega (arith, low))))

pub returns-in-Some : goal.returns-in-Some
returns-in-Some g c f computes =
    let k = c.args.at in
    let is : link c.args.network.now.links k ≡ Some c.from-place.result = c.in-Some.is ∙ ap Some (sym c.from-place.ensures) in
    let low = link_low _ _ c.args.network.now.valid _ c.args.network.now.linked k c.requires.within c.from-place.result is in
    computes _ _ _ c.after.ensures
    ∙ ap (λ (w : Span). f w (answer c.args.answers.now c.from-place.result)) (sym (span_read c.args.windows.now c.from-place.result c.index-windows-place.result (omega (arith, low))))
    ∙ ap (window_from f (item_at c.args.network.now.items.now k) (spans_of c.args.windows.now) c.args.answers.now) (sym is ∙ c.args.network.now.linked k c.requires.within)
