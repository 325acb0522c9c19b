-- The position of the first higher number is the rank, and so is the length where there is none.
use Rattle.std.proofs.Common.{ℕ, Option, length, rules, ltb, ap, ◌∙◌}
use Rattle.std.specs.Option.{unwrap_or}
use Rattle.std.proofs.lemmas.Iterator.{YieldsList-from_slice}
use Rattle.std.proofs.lemmas.Iterator.Search.{position_from_yields_List}
use borrow.Author.Tests.{tests}
use Rattle.items.proofs.Places.{rank_found}
use Rattle.items.proofs.lists.rank_of.Goals as goal

pub returns-clause-value : goal.returns-clause-value
returns-clause-value c =
    let n = c.args.number in
    let xs = c.args.items.now in
    let is = position_from_yields_List (λ x. ltb n x.number) _ _ c.position.result c.position.ensures.ran (YieldsList-from_slice xs cc) (λ x b q k. search (rules, tests)) in
    c.unwrap_or.ensures ∙ ap (λ (o : Option ℕ). unwrap_or o (length xs)) is ∙ rank_found n xs
