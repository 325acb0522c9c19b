-- The conditions on which an edit is refused, in the order in which they are looked at.
use Rattle.std.specs.Prelude.{ℕ, ◌-◌, Bool, cond, not, ◌&&◌, ◌||◌, List, [], ◌∷◌, length, Some, None, Option, ◌==◌, nat_le, nat_lt, slice_index}
use Rattle.std.specs.List.{list_any}
use Rattle.items.specs.declared.Item.{Item}
use Rattle.items.specs.declared.Work.{Work}
use Rattle.items.specs.declared.Work.TheVariants.{Task, Frame}
use Rattle.items.specs.declared.Refusal.{Refusal}
use Rattle.items.specs.declared.Refusal.TheVariants.{ResourceCount, BitTime, Number, NumberStands, NoResource, Priority, PriorityUsed, WrongKind, WorkRange, Predecessor, Timing, PlanFull, NotStanding, HasSuccessor}
use Rattle.items.specs.Items.{item_of}

-- a condition, and the refusal that it brings
pub record Check : Type 0 where
  pub met : Bool
  pub brings : Refusal

-- the refusal of the first condition that is met
abbrev pub first_met : List Check → Option Refusal
first_met [] = None
first_met (c ∷ cs) = cond c.met (Some c.brings) (first_met cs)

-- a test as such a condition
abbrev pub check : Bool → Refusal → Check
check b r = record { met = b; brings = r }

-- a number below the first bound or above the second
abbrev pub outside : ℕ → ℕ → ℕ → Bool
outside low high n = (nat_lt n low) || (nat_lt high n)

-- an item of that number stands
abbrev pub stands : ℕ → List Item → Bool
stands n xs = list_any (λ x. x.number == n) xs

-- an item of that resource has that priority
abbrev pub priority_used : ℕ → ℕ → List Item → Bool
priority_used resource priority xs = list_any (λ x. (x.resource == resource) && (x.priority == priority)) xs

-- an item follows the one of that number
abbrev pub has_successor : ℕ → List Item → Bool
has_successor n xs = list_any (λ x. x.predecessor == n) xs

-- the bit time of a resource, counted from 1
abbrev pub bit_time_of : List ℕ → ℕ → ℕ
bit_time_of bits resource = slice_index bits (resource - 1)

-- a task for a bus, or a frame for a processor, whose bit time is 0
abbrev pub wrong_kind : ℕ → Work → Bool
wrong_kind bit (Task low high) = not (bit == 0)
wrong_kind bit (Frame bytes) = bit == 0

-- demands or data bytes outside their bounds
abbrev pub work_outside : Work → Bool
work_outside (Task low high) = (nat_lt low 1) || ((nat_lt high low) || (nat_lt 10000000 high))
work_outside (Frame bytes) = nat_lt 8 bytes

-- a predecessor that is neither 0 nor a standing item of lower number
abbrev pub bad_predecessor : Item → List Item → Bool
bad_predecessor x xs = not (x.predecessor == 0) && not ((nat_lt x.predecessor x.number) && stands x.predecessor xs)

-- a head without a period in its bounds or with a delay above its bound, or another item with a period or a delay
abbrev pub bad_timing : Item → Bool
bad_timing x = cond (x.predecessor == 0) ((outside 1 10000000 x.period) || (nat_lt 10000000 x.delay)) (not (x.period == 0) || not (x.delay == 0))

-- some number of a list is above a limit
abbrev pub some_above : ℕ → List ℕ → Bool
some_above limit ns = list_any (nat_lt limit) ns

-- the conditions on opening a plan
abbrev pub open_checks : List ℕ → List Check
open_checks bits = check (outside 1 16 (length bits)) ResourceCount ∷ (check (some_above 100 bits) BitTime ∷ [])

-- the refusal of an opening, if any
abbrev pub open_refusal : List ℕ → Option Refusal
open_refusal bits = first_met (open_checks bits)

-- the conditions on placing an item among those that stand
abbrev pub place_checks : List ℕ → List Item → Item → List Check
place_checks bits xs x =
    check (outside 1 999 x.number) Number
    ∷ (check (stands x.number xs) NumberStands
    ∷ (check (outside 1 (length bits) x.resource) NoResource
    ∷ (check (nat_lt 2047 x.priority) Priority
    ∷ (check (priority_used x.resource x.priority xs) PriorityUsed
    ∷ (check (wrong_kind (bit_time_of bits x.resource) x.work) WrongKind
    ∷ (check (work_outside x.work) WorkRange
    ∷ (check (bad_predecessor x xs) Predecessor
    ∷ (check (bad_timing x) Timing
    ∷ (check (nat_le 256 (length xs)) PlanFull
    ∷ [])))))))))

-- the refusal of a placement, if any
abbrev pub place_refusal : List ℕ → List Item → Item → Option Refusal
place_refusal bits xs x = first_met (place_checks bits xs x)

-- the conditions on withdrawing the item of a number
abbrev pub withdraw_checks : List Item → ℕ → List Check
withdraw_checks xs n = check (not (stands n xs)) NotStanding ∷ (check (has_successor n xs) HasSuccessor ∷ [])

-- the refusal of a withdrawal, if any
abbrev pub withdraw_refusal : List Item → ℕ → Option Refusal
withdraw_refusal xs n = first_met (withdraw_checks xs n)

-- the conditions on giving a standing item other work
abbrev pub retime_checks : List ℕ → Item → Work → List Check
retime_checks bits x w = check (wrong_kind (bit_time_of bits x.resource) w) WrongKind ∷ (check (work_outside w) WorkRange ∷ [])

-- the refusal of other work for an item, which may be missing
abbrev pub retime_of : List ℕ → Option Item → Work → Option Refusal
retime_of bits None w = Some NotStanding
retime_of bits (Some x) w = first_met (retime_checks bits x w)

-- the refusal of a retime, if any
abbrev pub retime_refusal : List ℕ → List Item → ℕ → Work → Option Refusal
retime_refusal bits xs n w = retime_of bits (item_of n xs) w
