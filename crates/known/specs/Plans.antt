-- The known plans: the bit times of their resources, and their items.
use Rattle.std.specs.Prelude.{ℕ, List, [], ◌∷◌}
use Rattle.items.specs.declared.Item.{Item}
use Rattle.items.specs.declared.Work.{Work}
use Rattle.items.specs.declared.Work.TheVariants.{Task, Frame}

-- a head of a chain
abbrev pub head : (number resource priority : ℕ) → Work → (period delay : ℕ) → Item
head number resource priority work period delay = record { number = number; resource = resource; priority = priority; work = work; predecessor = 0; period = period; delay = delay }

-- an item that comes after another
abbrev pub next : (number resource priority : ℕ) → Work → (predecessor : ℕ) → Item
next number resource priority work predecessor = record { number = number; resource = resource; priority = priority; work = work; predecessor = predecessor; period = 0; delay = 0 }

-- the resources of a plan with one processor
abbrev pub processor : List ℕ
processor = 0 ∷ []

-- and of one with a bus of a bit time
abbrev pub bus : ℕ → List ℕ
bus bit = bit ∷ []

-- tasks of demands 5 and 4 every 10 and 16 ticks
abbrev pub tasks : List Item
tasks = head 1 1 0 (Task 5 5) 10 0 ∷ (head 2 1 1 (Task 4 4) 16 0 ∷ [])

-- a task that asks for the whole processor, released so many ticks late at most
abbrev pub whole : ℕ → List Item
whole delay = head 1 1 0 (Task 10 10) 10 delay ∷ []

-- a chain of three tasks of demand 20, and a head below it
abbrev pub chain : List Item
chain =
    head 1 1 0 (Task 20 20) 100 0
    ∷ (next 2 1 1 (Task 20 20) 1
    ∷ (next 3 1 2 (Task 20 20) 2
    ∷ (head 4 1 3 (Task 30 30) 1000 0
    ∷ [])))

-- two frames of 7 bytes every 2,500 and 3,500 ticks
abbrev pub frames : List Item
frames = head 1 1 0 (Frame 7) 2500 0 ∷ (head 2 1 1 (Frame 7) 3500 0 ∷ [])

-- and a third below them
abbrev pub three_frames : List Item
three_frames = head 1 1 0 (Frame 7) 2500 0 ∷ (head 2 1 1 (Frame 7) 3500 0 ∷ (head 3 1 2 (Frame 7) 3500 0 ∷ []))

-- a frame without data, alone
abbrev pub lone_frame : ℕ → List Item
lone_frame period = head 1 1 0 (Frame 0) period 0 ∷ []

-- a processor, a bus of bit time 2 and a second processor
abbrev pub line : List ℕ
line = 0 ∷ (2 ∷ (0 ∷ []))

-- a sensor's task, its frame, and the task that the frame starts, below a head that is quick
abbrev pub carton : List Item
carton =
    head 1 1 0 (Task 100 150) 10000 0
    ∷ (next 2 2 0 (Frame 8) 1
    ∷ (next 3 3 1 (Task 50 80) 2
    ∷ (head 4 3 0 (Task 30 30) 400 0
    ∷ [])))
