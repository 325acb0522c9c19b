-- The plan's own view: its items, and a journal of the last edits by which it takes them back. Unlike the ledger it does not keep older edits.
use Rattle.std.specs.Prelude.{◌≡◌, ℕ, zero, suc, ◌≤◌, List, [], ◌∷◌, length, take, drop, Some, None, Option}
use Rattle.items.specs.declared.Item.{Item}
use Rattle.items.specs.declared.Entry.{Entry}
use Rattle.items.specs.declared.Refusal.{Refusal}
use Rattle.items.specs.declared.Refusal.TheVariants.{NothingToUndo}
use Rattle.items.specs.Items.{item_of, with_item, without_item}
use Rattle.items.specs.Valid.{Valid}
use Rattle.items.specs.Ledger.{Edit, placed, withdrawn, retimed, edited, edit_refusal, Visit, edit, undo, settle, Ledger, standing, after_edits}

-- what a plan holds; the journal has the newest entry first
pub record State : Type 0 where
  pub bits : List ℕ
  pub items : List Item
  pub journal : List Entry

-- a plan just opened or read
abbrev pub fresh : List ℕ → List Item → State
fresh bits first = record { bits = bits; items = first; journal = [] }

-- the number that an edit is about
abbrev pub subject : Edit → ℕ
subject (placed x) = x.number
subject (withdrawn n) = n
subject (retimed n w) = n

-- the entry of an edit: its number and the record that stands under it
abbrev pub entry_for : List Item → Edit → Entry
entry_for xs e = record { number = subject e; before = item_of (subject e) xs }

-- a journal holds 32 entries at most: one more drives the oldest out
abbrev pub noted : Entry → List Entry → List Entry
noted e es = take 32 (e ∷ es)

-- the record comes back, if there was one
abbrev pub restored : Option Item → List Item → List Item
restored None xs = xs
restored (Some x) xs = with_item x xs

-- whatever stands under the entry's number goes, and the record before comes back
abbrev pub undone : Entry → List Item → List Item
undone e xs = restored e.before (without_item e.number xs)

-- the items with the newest k entries taken back
abbrev pub undone_newest : ℕ → List Entry → List Item → List Item
undone_newest zero es xs = xs
undone_newest (suc k) [] xs = xs
undone_newest (suc k) (e ∷ es) xs = undone_newest k es (undone e xs)

-- an edit that is not refused is done and noted
abbrev pub made : State → Edit → Option Refusal → State
made s e None = record { bits = s.bits; items = edited e s.items; journal = noted (entry_for s.items e) s.journal }
made s e (Some r) = s

-- the newest entry is taken back and struck
abbrev pub reverted : State → List Entry → State
reverted s [] = s
reverted s (e ∷ es) = record { bits = s.bits; items = undone e s.items; journal = es }

-- the state after a visit
abbrev pub visited : State → Visit → State
visited s (edit e) = made s e (edit_refusal s.bits s.items e)
visited s undo = reverted s s.journal
visited s settle = s

-- an undo is refused where the journal is empty
abbrev pub nothing_noted : List Entry → Option Refusal
nothing_noted [] = Some NothingToUndo
nothing_noted (e ∷ es) = None

-- what an edit or an undo answers; a settle answers elsewhere
abbrev pub answer : State → Visit → Option Refusal
answer s (edit e) = edit_refusal s.bits s.items e
answer s undo = nothing_noted s.journal
answer s settle = None

-- after every visit of a list, the first visit first
abbrev pub visited_all : State → List Visit → State
visited_all s [] = s
visited_all s (v ∷ vs) = visited_all (visited s v) vs

-- what every plan has: its items are valid, and so they are with any entries taken back
pub record WellKept (s : State) : Type 0 where
  pub short : length s.journal ≤ 32
  pub valid : (k : ℕ) → k ≤ length s.journal → Valid s.bits (undone_newest k s.journal s.items)

-- the items of a ledger without its newest k edits
abbrev pub standing_before : ℕ → Ledger → List Item
standing_before k l = after_edits l.first (drop k l.edits)

-- a state holds what the ledger says, and its journal leads back to what the ledger said before
pub record Tracks (l : Ledger) (s : State) : Type 0 where
  pub bits : s.bits ≡ l.bits
  pub items : s.items ≡ standing l
  pub count : length s.journal ≡ l.count
  pub back : (k : ℕ) → k ≤ l.count → undone_newest k s.journal s.items ≡ standing_before k l
