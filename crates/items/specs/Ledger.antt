-- The ledger: what a plan should hold after a list of visits, told only the arguments of the visits.
use Rattle.std.specs.Prelude.{ℕ, zero, suc, ◌+◌, min, List, [], ◌∷◌, Some, None, Option}
use Rattle.items.specs.declared.Item.{Item}
use Rattle.items.specs.declared.Work.{Work}
use Rattle.items.specs.declared.Refusal.{Refusal}
use Rattle.items.specs.declared.Refusal.TheVariants.{NothingToUndo}
use Rattle.items.specs.Items.{with_item, without_item, with_work}
use Rattle.items.specs.Conditions.{place_refusal, withdraw_refusal, retime_refusal}

-- the three edits, by their arguments
pub data Edit : Type 0 where
  placed : Item → Edit
  withdrawn : ℕ → Edit
  retimed : ℕ → Work → Edit

-- the edits have the newest first; `count` of them can be taken back
pub record Ledger : Type 0 where
  pub bits : List ℕ
  pub first : List Item
  pub edits : List Edit
  pub count : ℕ

-- the ledger of a plan just opened or read
abbrev pub opened : List ℕ → List Item → Ledger
opened bits first = record { bits = bits; first = first; edits = []; count = 0 }

-- the items after an edit
abbrev pub edited : Edit → List Item → List Item
edited (placed x) xs = with_item x xs
edited (withdrawn n) xs = without_item n xs
edited (retimed n w) xs = with_work n w xs

-- the items after a list of edits, the newest of which stands first
abbrev pub after_edits : List Item → List Edit → List Item
after_edits first [] = first
after_edits first (e ∷ es) = edited e (after_edits first es)

-- the standing items: the first items with the edits done in order
abbrev pub standing : Ledger → List Item
standing l = after_edits l.first l.edits

-- the refusal of an edit on items, if any
abbrev pub edit_refusal : List ℕ → List Item → Edit → Option Refusal
edit_refusal bits xs (placed x) = place_refusal bits xs x
edit_refusal bits xs (withdrawn n) = withdraw_refusal xs n
edit_refusal bits xs (retimed n w) = retime_refusal bits xs n w

-- what a visitor asks
pub data Visit : Type 0 where
  edit : Edit → Visit
  undo : Visit
  settle : Visit

-- an edit that is not refused joins the ledger; at most 32 can be taken back
abbrev pub booked : Ledger → Edit → Option Refusal → Ledger
booked l e None = record { bits = l.bits; first = l.first; edits = e ∷ l.edits; count = min 32 (l.count + 1) }
booked l e (Some r) = l

-- the edits without the newest
abbrev pub struck : List Edit → List Edit
struck [] = []
struck (e ∷ es) = es

-- an undo strikes the newest edit, unless none can be taken back
abbrev pub taken_back : Ledger → ℕ → Ledger
taken_back l zero = l
taken_back l (suc n) = record { bits = l.bits; first = l.first; edits = struck l.edits; count = n }

-- the ledger after a visit
abbrev pub fed : Ledger → Visit → Ledger
fed l (edit e) = booked l e (edit_refusal l.bits (standing l) e)
fed l undo = taken_back l l.count
fed l settle = l

-- an undo is refused where none can be taken back
abbrev pub no_undo : ℕ → Option Refusal
no_undo zero = Some NothingToUndo
no_undo (suc n) = None

-- what an edit or an undo answers; a settle answers elsewhere
abbrev pub refusal : Ledger → Visit → Option Refusal
refusal l (edit e) = edit_refusal l.bits (standing l) e
refusal l undo = no_undo l.count
refusal l settle = None

-- after every visit of a list, the first visit first
abbrev pub fed_all : Ledger → List Visit → Ledger
fed_all l [] = l
fed_all l (v ∷ vs) = fed_all (fed l v) vs
