use Rattle.std.proofs.Common.{◌≡◌, ◌<◌, [], ◌∷◌, ◌++◌, length, take, sym, ap, ◌∙◌, arith, length-set}
use Rattle.std.proofs.lemmas.List.{take_more_set, map_more, take_all}
use Rattle.service.specs.Rows.{row, no_record}
use Rattle.rules.specs.Switches.{longer, all_longer}
use Rattle.rules.specs.Longer.{room_at}
use Rattle.rules.proofs.switch.rows.lengthen.Goals as goal

pub lengthened-requires : goal.lengthened-requires
lengthened-requires c = room_at c.args.ticks c.args.rows.now.records.now c.requires c.loop-at.at c.loop-at-test.true

pub loop-at-preserved : goal.loop-at-preserved
loop-at-preserved c =
    let i = c.loop-at.at in
    let r = row c.args.rows.now.records.now i in
    let inside : i < length c.loop-at.scratch = omega (arith, c.args.rows.now.workable.few) in (
      length-set _ _ _ ∙ c.loop-at.invariant.0,
      take_more_set c.loop-at.scratch i _ inside
          ∙ ap (λ x. take i c.loop-at.scratch ++ x ∷ []) c.lengthened.ensures
          ∙ ap (λ l. l ++ longer c.args.ticks r ∷ []) c.loop-at.invariant.1
          ∙ sym (map_more (longer c.args.ticks) c.args.rows.now.records.now i no_record c.loop-at-test.true),
    )

pub returns : goal.returns
returns c =
    let end : c.loop-at.at ≡ length c.args.rows.now.records.now = omega arith in
    ap (λ n. take n c.loop-at.scratch) (sym end) ∙ c.loop-at.invariant.1 ∙ ap (all_longer c.args.ticks) (take_all _ _ c.loop-at-test.false)
