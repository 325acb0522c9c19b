-- A task on a processor, then a frame on a bus of bit time 1, then a task on a second processor; its table; and a run of two arrivals.
use Rattle.std.specs.Prelude.{ℕ, ◌+◌, ◌-◌, Bool, cond, ◌&&◌, ◌||◌, List, [], ◌∷◌, Some, None, ◌==◌, nat_le, nat_lt, slice_index_or}
use Rattle.service.specs.Traces.{Trace}
use Rattle.items.specs.declared.Item.{Item}
use Rattle.items.specs.declared.Work.TheVariants.{Task, Frame}
use Rattle.tables.specs.Demands.{Span, nowhere}

abbrev pub bits : List ℕ
bits = 0 ∷ (1 ∷ (0 ∷ []))

abbrev pub items : List Item
items =
    record { number = 1; resource = 1; priority = 0; work = Task 2 4; predecessor = 0; period = 200; delay = 3 }
    ∷ (record { number = 2; resource = 2; priority = 0; work = Frame 0; predecessor = 1; period = 0; delay = 0 }
    ∷ (record { number = 3; resource = 3; priority = 0; work = Task 5 5; predecessor = 2; period = 0; delay = 0 }
    ∷ []))

-- the release windows
abbrev pub windows : List Span
windows = record { from = 0; to = 3 } ∷ (record { from = 2; to = 7 } ∷ (record { from = 49; to = 117 } ∷ []))

-- the finish windows
abbrev pub finishes : List Span
finishes = record { from = 2; to = 7 } ∷ (record { from = 49; to = 117 } ∷ (record { from = 54; to = 122 } ∷ []))

abbrev pub finish : ℕ → Span
finish k = slice_index_or finishes k nowhere

-- when the jobs of an item are first served and when they are finished, counted from the arrival
abbrev pub begins : ℕ → ℕ
begins n = cond (n == 1) 1 (cond (n == 2) 4 54)

abbrev pub ends : ℕ → ℕ
ends n = cond (n == 1) 4 (cond (n == 2) 54 59)

-- items 1 to 3 have arrivals at 0 and at 200
abbrev pub arrives : ℕ → ℕ → Bool
arrives n a = (nat_le 1 n && nat_le n 3) && (a == 0 || a == 200)

abbrev pub run : Trace
run = record {
  ticks = 400;
  arrives = arrives;
  release = λ n a. cond (arrives n a) (Some (a + begins n)) None;
  demand = λ n a. ends n - begins n;
  serves = λ n a t. arrives n a && (nat_le (a + begins n) t && nat_lt t (a + ends n));
}
