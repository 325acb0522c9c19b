-- The refusals of a plan's calls: their numbers, and a call's result from the refusal that it meets.
use Rattle.std.specs.Prelude.{ℕ, Some, None, Ok, Err, Option, Result}
use Rattle.items.specs.declared.Refusal.{Refusal}
use Rattle.items.specs.declared.Refusal.TheVariants.{ResourceCount, BitTime, Number, NumberStands, NoResource, Priority, PriorityUsed, WrongKind, WorkRange, Predecessor, Timing, PlanFull, NotStanding, HasSuccessor, NothingToUndo}

-- the number of each refusal
abbrev pub number_of : Refusal → ℕ
number_of ResourceCount = 1
number_of BitTime = 2
number_of Number = 3
number_of NumberStands = 4
number_of NoResource = 5
number_of Priority = 6
number_of PriorityUsed = 7
number_of WrongKind = 8
number_of WorkRange = 9
number_of Predecessor = 10
number_of Timing = 11
number_of PlanFull = 12
number_of NotStanding = 13
number_of HasSuccessor = 14
number_of NothingToUndo = 15

-- what a call returns: accepted where no refusal is met
abbrev pub as_result : Option Refusal → Result Unit Refusal
as_result None = Ok tt
as_result (Some r) = Err r
