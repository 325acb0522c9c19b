-- What a plan keeps over its edits, and that it follows the ledger.
use Rattle.std.specs.Prelude.{◌≡◌, ℕ, List, [], ◌∷◌, ◌++◌, map, replicate, Some, None}
use Rattle.std.specs.List.{range_with_len}
use Rattle.items.specs.declared.Item.{Item}
use Rattle.items.specs.declared.Refusal.TheVariants.{NothingToUndo}
use Rattle.items.specs.declared.Work.TheVariants.{Task}
use Rattle.items.specs.Conditions.{open_refusal}
use Rattle.items.specs.Valid.{Valid}
use Rattle.items.specs.Ledger.{Ledger, Edit, placed, Visit, edit, undo, opened, edited, edit_refusal, standing, refusal, fed, fed_all}
use Rattle.items.specs.Journal.{State, fresh, visited, visited_all, answer, WellKept, Tracks}

-- a plan that opens is valid
abbrev pub OpensValid : Type 0
OpensValid = (bits : List ℕ) → open_refusal bits ≡ None → Valid bits []

-- an accepted edit leaves a valid plan valid
abbrev pub EditsKeepValid : Type 0
EditsKeepValid = (bits : List ℕ) (xs : List Item) (e : Edit) → Valid bits xs → edit_refusal bits xs e ≡ None → Valid bits (edited e xs)

-- a plan starts well kept from valid items, and every visit leaves it so
pub record VisitsKeep : Type 0 where
  pub start : (bits : List ℕ) (first : List Item) → Valid bits first → WellKept (fresh bits first)
  pub visit : (s : State) (v : Visit) → WellKept s → WellKept (visited s v)

-- a visit's answer is the ledger's, and what tracked the ledger before tracks it after
pub record Followed (l : Ledger) (s : State) (v : Visit) : Type 0 where
  pub answers : answer s v ≡ refusal l v
  pub tracks : Tracks (fed l v) (visited s v)

pub record VisitsFollow : Type 0 where
  pub start : (bits : List ℕ) (first : List Item) → Tracks (opened bits first) (fresh bits first)
  pub visit : (l : Ledger) (s : State) (v : Visit) → WellKept s → Tracks l s → Followed l s v

-- a plan holds what stands in the ledger, and gives the ledger's answer to whatever is asked next
pub record Follows (l : Ledger) (s : State) : Type 0 where
  pub items : s.items ≡ standing l
  pub answers : (v : Visit) → answer s v ≡ refusal l v
  pub kept : WellKept s
  pub tracks : Tracks l s

-- so it is after any visits, from any valid first items
abbrev pub FollowsLedger : Type 0
FollowsLedger = (bits : List ℕ) (first : List Item) → Valid bits first → (vs : List Visit) → Follows (fed_all (opened bits first) vs) (visited_all (fresh bits first) vs)

-- the item of a number, on one processor, at the priority of its number
abbrev sample : ℕ → Item
sample n = record { number = n; resource = 1; priority = n; work = Task 1 1; predecessor = 0; period = 1000; delay = 0 }

-- a plan of one processor after placements of the items 1 to 33, and then so many undos
abbrev pub after_undos : ℕ → State
after_undos undos = visited_all (fresh (0 ∷ []) []) (map (λ n. edit (placed (sample n))) (range_with_len 1 33) ++ replicate undos undo)

-- 32 of them can be taken back: the next undo is refused, and the first item stands
pub record Undoes32 : Type 0 where
  pub last : answer (after_undos 31) undo ≡ None
  pub next : answer (after_undos 32) undo ≡ Some NothingToUndo
  pub left : (after_undos 32).items ≡ sample 1 ∷ []
