-- What a front holds.
use Rattle.std.specs.Prelude.{ℕ, List, take}
use Rattle.fronts.specs.declared.Front.{Front}

-- the elements in the front, which are the list
abbrev pub listed : {T : Type 0} {N : ℕ} → Front T N → List T
listed f = take f.count f.slots
