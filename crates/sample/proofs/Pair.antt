-- The pair is lawful, since the two rules are.
use Rattle.std.proofs.Common.{zero, suc}
use Rattle.service.specs.Laws.{LawfulRule}
use Rattle.rules.specs.Lawful.{processor_lawful, bus_lawful}
use Rattle.sample.specs.Pair.{allows, numbers}

pub lawful : LawfulRule allows numbers
lawful zero = processor_lawful
lawful (suc bit) = bus_lawful (suc bit)
