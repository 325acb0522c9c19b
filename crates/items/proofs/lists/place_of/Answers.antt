-- The position of the number is its first place; where it has none, it does not stand.
use Rattle.std.proofs.Common.{◌≡◌, ◌≢◌, rules}
use Rattle.std.proofs.lemmas.Iterator.{YieldsList-from_slice, IsFirst-from_position}
use borrow.Author.Tests.{tests}
use Rattle.items.proofs.Places.{first_place}
use Rattle.items.proofs.lists.place_of.Goals as goal

pub returns : goal.returns
returns c =
    let n = c.args.number in
    let found = IsFirst-from_position _ _ c.position.result (λ x. x.number ≡ n) (λ x. x.number ≢ n) c.position.ensures.ran (YieldsList-from_slice c.args.items.now cc) (λ x q k. search (rules, tests)) (λ x q k. search (rules, tests)) in
    first_place n c.args.items.now c.position.result found
