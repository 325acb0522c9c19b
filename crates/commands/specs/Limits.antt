-- How large the numbers of a line may be.
use Rattle.std.specs.Prelude.{ℕ}
use Rattle.commands.specs.declared.fault.Field.{Field}
use Rattle.commands.specs.declared.fault.Field.TheVariants.{Number, Resource, Priority, Least, Greatest, Bytes, Predecessor, Period, Delay, BitTime, Budget, Switch, Rows}

-- the largest number that may stand for a field
abbrev pub most_of : Field → ℕ
most_of Number = 65535
most_of Resource = 65535
most_of Priority = 4294967295
most_of Least = 4294967295
most_of Greatest = 4294967295
most_of Bytes = 4294967295
most_of Predecessor = 65535
most_of Period = 4294967295
most_of Delay = 4294967295
most_of BitTime = 255
most_of Budget = 4294967295
most_of Switch = 1000
most_of Rows = 4294967295
