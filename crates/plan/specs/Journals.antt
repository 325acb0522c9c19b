-- What stands in a journal.
use Rattle.std.specs.Prelude.{List}
use Rattle.fronts.specs.Listed.{listed}
use Rattle.items.specs.declared.Entry.{Entry}
use Rattle.plan.specs.declared.journal.Journal.{Journal}

-- the entries of a journal, the newest first
abbrev pub entries_in : Journal → List Entry
entries_in j = listed j.entries
