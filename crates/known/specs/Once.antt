-- That the sweeps come to one answer only.
use Rattle.std.specs.Prelude.{◌≡◌, ℕ, List, Result}
use Rattle.items.specs.declared.Item.{Item}
use Rattle.service.specs.Numbers.{Numbers}
use Rattle.settle.specs.declared.Fault.{Fault}
use Rattle.settle.specs.Settled.{Ends}

-- whatever the rule and the plan: two answers that a settle can give within a budget are the same, in the count or in the fault and its numbers
abbrev pub OneWay : Type 0
OneWay = (rule : Numbers) (bits : List ℕ) (xs : List Item) (budget : ℕ) (r s : Result ℕ Fault) → Ends rule bits xs budget r → Ends rule bits xs budget s → r ≡ s
