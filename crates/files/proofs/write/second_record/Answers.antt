-- Four numbers in a row, each by its bytes.
use Rattle.std.proofs.Common.{◌++◌, refl}
use Rattle.layout.proofs.Arrays.{four_bytes}
use Rattle.files.proofs.write.second_record.Goals as goal

pub returns : goal.returns
returns c =
    let first = four_bytes c.to_le_bytes.result _ _ c.to_le_bytes.ensures c.words_of-first.ensures.0 in
    let second = four_bytes c.to_le_bytes-2.result _ _ c.to_le_bytes-2.ensures c.words_of-first.ensures.1 in
    let third = four_bytes c.to_le_bytes-3.result _ _ c.to_le_bytes-3.ensures refl in
    let fourth = four_bytes c.to_le_bytes-4.result _ _ c.to_le_bytes-4.ensures refl in
    λ i. first i ++ (second i ++ (third i ++ fourth i))
