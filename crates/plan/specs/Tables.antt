-- What stands in a table.
use Rattle.std.specs.Prelude.{List}
use Rattle.fronts.specs.Listed.{listed}
use Rattle.items.specs.declared.Item.{Item}
use Rattle.plan.specs.declared.table.Table.{Table}

-- the items of a table
abbrev pub items_in : Table → List Item
items_in t = listed t.items
