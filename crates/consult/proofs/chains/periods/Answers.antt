-- Each turn of `periods` writes one period, from the item or from its predecessor's place.
use Rattle.std.proofs.Common.{◌≡◌, ℕ, ◌<◌, ◌≢◌, List, length, Some, Option, unwrap_or, sym, ap, ◌∙◌, arith, length-set, get_or-set_other, get_or-set_same, below_more}
use Rattle.std.proofs.lemmas.Bool.{ne_eqb}
use Rattle.items.specs.declared.Item.{Item}
use Rattle.items.specs.Items.{item_at}
use Rattle.items.specs.Valid.{Valid}
use Rattle.tables.specs.Demands.{place_of, period_of}
use Rattle.consult.specs.Chains.{link, link_of, Linked}
use Rattle.consult.proofs.Links.{head_link, own_period, before, Before}
use Rattle.consult.proofs.chains.periods.Goals as goal
use Rattle.consult.proofs.chains.periods.Goals.{then-item-eq0, else-item-eq0}

-- where an item that is no head has its link
follower : (bits : List ℕ) (xs : List Item) (valid : Valid bits xs) (ls : List (Option ℕ)) → Linked xs ls → (k : ℕ) → k < length xs → (item_at xs k).predecessor ≢ 0 → (p : ℕ) → p ≡ unwrap_or (link ls k) 0 → Before bits xs valid k p
follower bits xs valid ls linked k h ne p is =
    let some : link_of xs (item_at xs k) ≡ Some (place_of (item_at xs k).predecessor xs) = rw (ne_eqb (item_at xs k).predecessor 0 ne) in
    let here : p ≡ place_of (item_at xs k).predecessor xs = is ∙ ap (λ (o : Option ℕ). unwrap_or o 0) (linked k h ∙ some) in
    before bits xs valid k p h (some ∙ ap Some (sym here))

pub bounds-ticks-place : goal.bounds-ticks-place
bounds-ticks-place c =
    let b = follower c.requires.0.0 c.args.items.now c.requires.0.1 c.args.places.now c.requires.1 c.loop-at.at c.loop-at-test.true (λ z. omega arith) c.from-place.result (c.from-place.ensures ∙ c.unwrap_or.ensures) in
    omega (arith, b.earlier, c.requires.0.1.size)

pub loop-at-preserved : goal.loop-at-preserved
loop-at-preserved c =
    let bits = c.requires.0.0 in
    let xs = c.args.items.now in
    let valid = c.requires.0.1 in
    let i = c.loop-at.at in
    let here = c.loop-at-test.true in
    let inside : i < length c.loop-at.ticks = omega (arith, valid.size) in
    let value : c.if-item-eq0.ticks ≡ period_of xs (item_at xs i) =
    elim c.if-item-eq0.branch [
      | then-item-eq0 w ↦ w.ticks-is ∙ sym (own_period bits xs valid i here (head_link bits xs valid i (omega (arith, w.if-item-eq0.true))))
      | else-item-eq0 w ↦
          let b = follower bits xs valid c.args.places.now c.requires.1 i here (λ z. omega (arith, w.if-item-eq0.false)) c.from-place.result (c.from-place.ensures ∙ c.unwrap_or.ensures) in
          w.ticks-is ∙ c.loop-at.invariant.1 c.from-place.result b.earlier ∙ sym b.period
    ]
    in (
      length-set _ _ _ ∙ c.loop-at.invariant.0,
      below_more _ _
          (λ k h. let ne : k ≢ i = omega arith in rw get_or-set_other (c.loop-at.invariant.1 k h))
          (get_or-set_same _ _ _ _ inside ∙ value),
    )
