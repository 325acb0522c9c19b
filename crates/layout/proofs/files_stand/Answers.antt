use Rattle.std.proofs.Common.{sym, ap, ◌∙◌}
use Rattle.layout.specs.Reading.{bits_of, items_of}
use Rattle.layout.proofs.Laid.{bits_is, items_are, head_good, none_bad}
use Rattle.layout.proofs.Whole.{good_head, file_again}
use Rattle.layout.proofs.Records.{no_file}
use Rattle.layout.proofs.files_stand.Goals as goal

pub returns : goal.returns
returns c = record {
  one_plan = λ bits cits xs ys valid walid same. (
    sym (bits_is bits xs valid) ∙ ap bits_of same ∙ bits_is cits ys walid,
    sym (items_are bits xs valid) ∙ ap items_of same ∙ items_are cits ys walid,
  );
  good = λ bits xs valid. (head_good bits xs valid, none_bad bits xs valid);
  found = λ bits xs valid. (bits_is bits xs valid, items_are bits xs valid);
  whole = λ b bytes head good. file_again b bytes (good_head b head).whole good;
  no_plan = no_file;
}
