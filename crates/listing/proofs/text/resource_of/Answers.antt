use Rattle.std.proofs.Common.{vec_items, subst}
use Rattle.std.specs.Str.Iter.{lines_rest}
use Rattle.listing.proofs.Sofar.{Sofar, one_more, no_more}
use Rattle.listing.proofs.text.resource_of.Goals as goal

pub loop-at-preserved : goal.loop-at-preserved
loop-at-preserved c =
    let before = c.loop-at.reader in
    let after = c.take.new.self in
    one_more c.args.text.now (lines_rest c.loop-at.at-iterator.iter) c.in-Some.said.now (lines_rest c.next.new.self.iter) before.bit_time after.bit_time
    (vec_items before.records) (vec_items after.records) c.in-Some.ensures.steps.0.0.2 c.in_default.ensures c.loop-at.invariant

pub returns-in-Some-bit_time : goal.returns-in-Some-bit_time
returns-in-Some-bit_time c =
    let text = c.args.text.now in
    let rest = lines_rest c.loop-at.at-iterator.iter in
    let records = vec_items c.loop-at.reader.records in
    no_more text rest c.in-Some-bit_time.bit_time records c.in-None.ensures.steps.0.0.0 (subst (λ o. Sofar text rest o records) c.in-Some-bit_time.is c.loop-at.invariant)
