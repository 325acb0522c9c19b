-- A plan as its contracts speak of it.
use Rattle.std.specs.Prelude.{◌≡◌, ℕ, List, [], Some, None, Ok, Err, Result}
use Rattle.items.specs.declared.Refusal.{Refusal}
use Rattle.items.specs.Conditions.{open_refusal}
use Rattle.items.specs.Journal.{State, fresh}
use Rattle.plan.specs.declared.Plan.{Plan}
use Rattle.plan.specs.States.{state_of}

-- the bit times, the items and the journal of a plan
abbrev pub view : Plan → State
view p = state_of p.resources p.inner p.journal

-- what opening gives: an empty plan over the bit times where no condition is met, else the refusal of the first that is
abbrev pub Opened : List ℕ → Result Plan Refusal → Type 0
Opened bits (Ok p) = (open_refusal bits ≡ None) × (view p ≡ fresh bits [])
Opened bits (Err refusal) = open_refusal bits ≡ Some refusal
