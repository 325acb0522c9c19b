use Rattle.std.proofs.Common.{◌+◌, ◌-◌, length, refl, arith}
use Rattle.std.proofs.lemmas.List.{length-map}
use Rattle.words.specs.Spoken.{texts}
use Rattle.words.proofs.Spoken.{said_at}
use Rattle.commands.specs.declared.fault.Field.TheVariants as fields
use Rattle.commands.specs.declared.fault.Form.TheVariants.{Place}
use Rattle.script.specs.Commands.{Amiss}
use Rattle.script.proofs.Reading.{handed, misread, said_at_end, within, work_within}
use Rattle.script.proofs.read.place_of.Goals as goal

pub returns-in_err-resource : goal.returns-in_err-resource
returns-in_err-resource c = misread c.args.words.now Place 2 fields.Resource _ _ _ c.from_residual-in_err-resource.ensures.1 (omega arith) c.in_err-resource.ensures

pub returns-in_err-priority : goal.returns-in_err-priority
returns-in_err-priority c = misread c.args.words.now Place 3 fields.Priority _ _ _ c.from_residual-in_err-priority.ensures.1 (omega arith) c.in_err-priority.ensures

pub returns-in_err-predecessor : goal.returns-in_err-predecessor
returns-in_err-predecessor c = misread c.args.words.now Place (length c.args.words.now - 3) fields.Predecessor _ _ _ c.from_residual-in_err-predecessor.ensures.1 (omega arith) c.in_err-predecessor.ensures

pub returns-in_err-period : goal.returns-in_err-period
returns-in_err-period c = misread c.args.words.now Place (length c.args.words.now - 2) fields.Period _ _ _ c.from_residual-in_err-period.ensures.1 (omega arith) c.in_err-period.ensures

pub returns-in_err-delay : goal.returns-in_err-delay
returns-in_err-delay c = misread c.args.words.now Place (length c.args.words.now - 1) fields.Delay _ _ _ c.from_residual-in_err-delay.ensures.1 (omega arith) c.in_err-delay.ensures

pub returns-in_err-work : goal.returns-in_err-work
returns-in_err-work c =
    let words = c.args.words.now in
    handed _ _ (Amiss Place (texts words)) _ c.from_residual-in_err-work.ensures.1 (within words 5 (length words - 3 - 5) (omega arith) Place _ c.in_err-work.ensures)

pub returns : goal.returns
returns c =
    let words = c.args.words.now in
    let size = length words in (
      refl,
      record {
        end = size - 3;
        count = omega (arith, length-map words (λ w. w.now));
        number = said_at words 1 _ c.in_ok-number.ensures.writes;
        resource = said_at words 2 _ c.in_ok-resource.ensures.writes;
        priority = said_at words 3 _ c.in_ok-priority.ensures.writes;
        work = work_within words 5 (size - 3 - 5) (omega arith) 4 (size - 3) _ refl (omega arith) c.in_ok-work.ensures;
        predecessor = said_at words (size - 3) _ c.in_ok-predecessor.ensures.writes;
        period = said_at_end words (size - 2) (size - 3 + 1) _ (omega arith) c.in_ok-period.ensures.writes;
        delay = said_at_end words (size - 1) (size - 3 + 2) _ (omega arith) c.in_ok-delay.ensures.writes;
      },
    )
