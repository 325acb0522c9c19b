-- Each turn of `links` writes one link and leaves the others.
use Rattle.std.proofs.Common.{◌≡◌, ◌<◌, ◌≢◌, length, Some, None, sym, ap, ◌∙◌, arith, length-set, get_or-set_other, get_or-set_same, below_more}
use Rattle.std.proofs.lemmas.Bool.{eq-eqb, ne_eqb}
use Rattle.items.specs.Items.{item_at}
use Rattle.tables.specs.Demands.{place_of}
use Rattle.consult.specs.Chains.{link_of}
use Rattle.consult.proofs.chains.links.Goals as goal
use Rattle.consult.proofs.chains.links.Goals.{then-item-eq0, else-item-eq0}

pub loop-at-preserved : goal.loop-at-preserved
loop-at-preserved c =
    let xs = c.args.items.now in
    let i = c.loop-at.at in
    let inside : i < length c.loop-at.places = omega arith in
    let value : c.if-item-eq0.places ≡ link_of xs (item_at xs i) =
    elim c.if-item-eq0.branch [
      | then-item-eq0 w ↦
          let none : link_of xs (item_at xs i) ≡ None = rw (eq-eqb (item_at xs i).predecessor 0 (omega (arith, w.if-item-eq0.true))) in
          w.places-is ∙ sym none
      | else-item-eq0 w ↦
          let some : link_of xs (item_at xs i) ≡ Some (place_of (item_at xs i).predecessor xs) = rw (ne_eqb (item_at xs i).predecessor 0 (λ z. omega (arith, w.if-item-eq0.false))) in
          w.places-is ∙ ap Some w.place_of_number.ensures.place ∙ sym some
    ]
    in (
      length-set _ _ _ ∙ c.loop-at.invariant.0,
      below_more _ _
          (λ k h. let ne : k ≢ i = omega arith in rw get_or-set_other (c.loop-at.invariant.1 k h))
          (get_or-set_same _ _ _ _ inside ∙ value),
    )
