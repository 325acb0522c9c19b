-- Each way out of the tests on one record.
use Rattle.std.proofs.Common.{◌≡◌, None, true, sym, refl, ◌∙◌}
use Rattle.items.specs.Conditions.{place_refusal}
use Rattle.items.specs.Items.{with_item}
use Rattle.plan.specs.Views.{view}
use Rattle.layout.specs.Reading.{bad_record}
use Rattle.layout.proofs.Records.{bad_descends, bad_refused, bad_spare, good_record, taken_more, refused_by, accepted_by, placed_in}
use Rattle.files.proofs.read.admit.Goals as goal
use Rattle.files.proofs.read.admit.Goals.{then-descends-via-then-descends, then-descends-via-else-descends+then-is_err, then-descends-via-else-descends+else-is_err+then-has_spare}

pub returns-then-descends : goal.returns-then-descends
returns-then-descends c =
    let b = c.args.next.file.bytes.now in
    let k = c.args.next.place in
    let bad : bad_record b k ≡ true = elim c.then-descends.branch [
      | then-descends-via-then-descends w ↦ bad_descends b k (sym w.if-descends.ensures)
      | then-descends-via-else-descends+then-is_err w ↦
          let refused = refused_by _ w.place.result w.place.ensures.answer w.if-is_err.ensures.value in
          bad_refused b k refused.0 (sym (λ i. place_refusal (c.requires.bits i) (c.requires.items i) (w.item.ensures i)) ∙ refused.1)
      | then-descends-via-else-descends+else-is_err+then-has_spare w ↦ bad_spare b k (sym w.if-has_spare.ensures)
    ] in
    (bad, refl)

pub returns : goal.returns
returns c =
    let b = c.args.next.file.bytes.now in
    let k = c.args.next.place in
    let s = view c.args.plan.now in
    let up = sym c.if-descends.ensures in
    let accepted : place_refusal s.bits s.items c.item.result ≡ None = accepted_by _ c.place.result c.place.ensures.answer c.if-is_err.ensures.value in
    let next = placed_in s (view c.place.new.self) c.item.result accepted c.place.ensures.state in (
      good_record b k up (sym (λ i. place_refusal (c.requires.bits i) (c.requires.items i) (c.item.ensures i)) ∙ accepted) (sym c.if-has_spare.ensures),
      next.0 ∙ c.requires.bits,
      next.1 ∙ (λ i. with_item (c.item.ensures i) (c.requires.items i)) ∙ taken_more b k c.args.next.within c.requires.good up,
    )
