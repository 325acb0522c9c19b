-- What is written of a settled table and of a refusal.
use Rattle.std.specs.Prelude.{ℕ, List, [], ◌∷◌, ◌++◌, codes, decimal}
use Rattle.std.specs.List.{flat_map}
use Rattle.settle.specs.declared.WindowRow.{WindowRow}
use Rattle.settle.specs.declared.Fault.{Fault}
use Rattle.settle.specs.declared.Fault.TheVariants.{Budget, TableShort, Unbounded, Unsettled}
use Rattle.layout.specs.declared.FileFault.{FileFault}
use Rattle.layout.specs.declared.FileFault.TheVariants.{Length, Sizes, BitTime, Record}
use Rattle.texts.specs.declared.SentBack.{SentBack}
use Rattle.texts.specs.declared.SentBack.TheVariants.{Plan, Settle, File, Buffer}
use Rattle.texts.specs.Numbers.{sent_number}

-- a line ends in a line feed
abbrev pub ended : List ℕ → List ℕ
ended words = words ++ (10 ∷ [])

-- the first line of a table: the count of sweeps
abbrev pub sweeps_line : ℕ → List ℕ
sweeps_line sweeps = ended (codes "sweeps " ++ decimal sweeps)

-- a row: its number, and when its finish window opens and closes
abbrev pub row_words : WindowRow → List ℕ
row_words r = decimal r.number ++ (codes " " ++ (decimal r.finish_open ++ (codes " " ++ decimal r.finish_close)))

-- the line of a row
abbrev pub row_line : WindowRow → List ℕ
row_line r = ended (row_words r)

-- a table: the count of sweeps, and then a line for each row
abbrev pub table_text : ℕ → List WindowRow → List ℕ
table_text sweeps rows = sweeps_line sweeps ++ flat_map row_line rows

-- what is said of a settle's fault besides its number: which item of which resource has no bound, and in which sweep
abbrev pub fault_words : Fault → List ℕ
fault_words Budget = []
fault_words TableShort = []
fault_words (Unbounded item resource sweep) = codes " item " ++ (decimal item ++ (codes " resource " ++ (decimal resource ++ (codes " sweep " ++ decimal sweep))))
fault_words Unsettled = []

-- and of a file's: the place of the record
abbrev pub file_words : FileFault → List ℕ
file_words Length = []
file_words Sizes = []
file_words BitTime = []
file_words (Record place) = codes " place " ++ decimal place

-- what is said besides the number
abbrev pub detail_words : SentBack → List ℕ
detail_words (Plan refusal) = []
detail_words (Settle fault) = fault_words fault
detail_words (File fault) = file_words fault
detail_words (Buffer fault) = []

-- a refusal: its number, and what else is said of it
abbrev pub refusal_text : SentBack → List ℕ
refusal_text sent = ended (codes "refused " ++ (decimal (sent_number sent) ++ detail_words sent))
