-- The numbers of the faults.
use Rattle.std.specs.Prelude.{ℕ}
use Rattle.settle.specs.declared.Fault.{Fault}
use Rattle.settle.specs.declared.Fault.TheVariants.{Budget, TableShort, Unbounded, Unsettled}

abbrev pub fault_number : Fault → ℕ
fault_number Budget = 16
fault_number TableShort = 17
fault_number (Unbounded item resource sweep) = 18
fault_number Unsettled = 19
