-- The numbers of the faults of a file.
use Rattle.std.specs.Prelude.{ℕ}
use Rattle.layout.specs.declared.FileFault.{FileFault}
use Rattle.layout.specs.declared.FileFault.TheVariants.{Length, Sizes, BitTime, Record}

abbrev pub file_number : FileFault → ℕ
file_number Length = 20
file_number Sizes = 21
file_number BitTime = 2
file_number (Record place) = 22
