-- The standing items of a plan, as a list in ascending order of number, and the three edits of it.
use Rattle.std.specs.Prelude.{ℕ, cond, List, [], ◌∷◌, Some, None, Option, ◌==◌, nat_lt, slice_index_or}
use Rattle.items.specs.declared.Item.{Item}
use Rattle.items.specs.declared.Work.{Work}
use Rattle.items.specs.declared.Work.TheVariants.{Task}

-- what a read past the end of a list gives
abbrev pub no_item : Item
no_item = record { number = 0; resource = 0; priority = 0; work = Task 0 0; predecessor = 0; period = 0; delay = 0 }

-- the item at a place, from 0
abbrev pub item_at : List Item → ℕ → Item
item_at xs k = slice_index_or xs k no_item

-- the item of a number
abbrev pub item_of : ℕ → List Item → Option Item
item_of n [] = None
item_of n (x ∷ xs) = cond (x.number == n) (Some x) (item_of n xs)

-- one item more, before the first of a higher number
abbrev pub with_item : Item → List Item → List Item
with_item x [] = x ∷ []
with_item x (y ∷ ys) = cond (nat_lt x.number y.number) (x ∷ (y ∷ ys)) (y ∷ with_item x ys)

-- without the item of a number
abbrev pub without_item : ℕ → List Item → List Item
without_item n [] = []
without_item n (y ∷ ys) = cond (y.number == n) ys (y ∷ without_item n ys)

-- an item with other work
abbrev pub reworked : Work → Item → Item
reworked w x = record { number = x.number; resource = x.resource; priority = x.priority; work = w; predecessor = x.predecessor; period = x.period; delay = x.delay }

-- with other work for the item of a number
abbrev pub with_work : ℕ → Work → List Item → List Item
with_work n w [] = []
with_work n w (y ∷ ys) = cond (y.number == n) (reworked w y ∷ ys) (y ∷ with_work n w ys)
