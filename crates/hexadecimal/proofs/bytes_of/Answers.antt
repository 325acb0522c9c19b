use Rattle.std.proofs.Common.{◌≤◌, length, vec_items, ap, ◌∙◌, arith}
use Rattle.std.specs.Option.{option_map}
use Rattle.hexadecimal.specs.Digits.{unhex}
use Rattle.hexadecimal.proofs.Pairs.{read_more, read_none, read_end, read_back}
use Rattle.hexadecimal.proofs.bytes_of.Goals as goal

pub returns-in_default-byte_of-clause-back : goal.returns-in_default-byte_of-clause-back
returns-in_default-byte_of-clause-back c bytes small is =
    let word = c.args.word.now in
    read_none (vec_items c.loop-digits.bytes) c.loop-digits.digits.now (unhex word) (omega arith) c.in_default-byte_of.ensures c.loop-digits.invariant ∙ ap unhex is ∙ read_back bytes small

pub loop-digits-preserved : goal.loop-digits-preserved
loop-digits-preserved c =
    let digits = c.loop-digits.digits.now in
    let two : 2 ≤ length digits = omega arith in
    read_more (vec_items c.loop-digits.bytes) (vec_items c.push.new.self) digits (unhex c.args.word.now) c.in-Some.byte two c.in_ok-push.ensures.items c.in-Some.ensures c.loop-digits.invariant

pub returns-clause-back : goal.returns-clause-back
returns-clause-back c bytes small is =
    ap (option_map vec_items) c.then_some.ensures ∙ read_end vec_items c.loop-digits.bytes c.loop-digits.digits.now _ (unhex c.args.word.now) c.is_empty.ensures c.in_default.len_below c.loop-digits.invariant ∙ ap unhex is ∙ read_back bytes small
