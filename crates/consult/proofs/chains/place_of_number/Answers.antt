-- `place_of_number` stops at the place.
use Rattle.std.proofs.Common.{◌≡◌, suc, ◌+◌, drop, ◌∙◌, arith}
use Rattle.std.proofs.lemmas.List.{at_drop_more, at_drop_all}
use Rattle.std.proofs.lemmas.Bool.{eq-eqb, ne_eqb, cond-true, cond-false}
use Rattle.items.specs.Items.{no_item, item_at}
use Rattle.tables.specs.Demands.{place_of}
use Rattle.consult.proofs.chains.place_of_number.Goals as goal

pub loop-at-preserved : goal.loop-at-preserved
loop-at-preserved c =
    let n = c.args.number in
    let xs = c.args.items.now in
    let i = c.loop-at.at in
    let step : place_of n (drop i xs) ≡ suc (place_of n (drop (i + 1) xs)) = at_drop_more (place_of n) xs i no_item c.loop-at-test.true ∙ cond-false _ 0 _ (ne_eqb (item_at xs i).number n (λ e. omega arith)) in
    let inv : i + place_of n (drop i xs) ≡ place_of n xs = c.loop-at.invariant in
    let goal : i + 1 + place_of n (drop (i + 1) xs) ≡ place_of n xs = omega arith in
    goal

pub returns-then-item-number : goal.returns-then-item-number
returns-then-item-number c =
    let n = c.args.number in
    let xs = c.args.items.now in
    let i = c.loop-at.at in
    let here : place_of n (drop i xs) ≡ 0 = at_drop_more (place_of n) xs i no_item c.loop-at-test.true ∙ cond-true _ 0 _ (eq-eqb (item_at xs i).number n (omega arith)) in
    let inv : i + place_of n (drop i xs) ≡ place_of n xs = c.loop-at.invariant in
    record { place = omega arith; within = omega arith }

pub returns : goal.returns
returns c =
    let n = c.args.number in
    let xs = c.args.items.now in
    let i = c.loop-at.at in
    let none : place_of n (drop i xs) ≡ 0 = at_drop_all (place_of n) xs i c.loop-at-test.false in
    let inv : i + place_of n (drop i xs) ≡ place_of n xs = c.loop-at.invariant in
    record { place = omega arith; within = omega arith }
