-- Responses that are known, to be found by the equations as the contracts use them.
use Rattle.std.specs.Prelude.{◌≡◌, ℕ, List, [], ◌∷◌, Some, None, Option}
use Rattle.service.specs.declared.Record.{Record}
use Rattle.service.specs.Answers.{answered_worst}
use Rattle.bounds.specs.Equations.{processor_worst, bus_worst}

-- a row of a priority, a period, a jitter and both demands
abbrev pub told : (priority period jitter least greatest : ℕ) → Record
told priority period jitter least greatest = record { priority = priority; period = period; jitter = jitter; least = least; greatest = greatest }

-- the worst responses as the rules answer them
abbrev pub on_processor : List Record → ℕ → Option ℕ
on_processor rs p = answered_worst processor_worst rs p

abbrev pub on_bus : ℕ → List Record → ℕ → Option ℕ
on_bus bit rs p = answered_worst (bus_worst bit) rs p

-- tasks of demands 5 and 4 every 10 and 16 ticks
abbrev pub tasks : List Record
tasks = told 0 10 0 5 5 ∷ (told 1 16 0 4 4 ∷ [])

-- frames of 1,000 ticks every 2,500, 3,500 and 3,500
abbrev pub frames : List Record
frames = told 0 2500 0 824 1000 ∷ (told 1 3500 0 824 1000 ∷ (told 2 3500 0 824 1000 ∷ []))

-- a frame of 47 to so many ticks, alone
abbrev pub alone : (period greatest : ℕ) → List Record
alone period greatest = told 0 period 0 47 greatest ∷ []

-- two ticks of work every 5 ticks with some jitter, over a row of three ticks
abbrev pub under_five : ℕ → List Record
under_five jitter = told 0 5 jitter 2 2 ∷ (told 1 100 0 3 3 ∷ [])

-- one tick of work every 30 and every 100 ticks
abbrev pub short_frames : List Record
short_frames = told 0 30 0 1 1 ∷ (told 1 100 0 1 1 ∷ [])

pub record KnownResponses : Type 0 where
  pub task_first : on_processor tasks 0 ≡ Some 5
  pub task_second : on_processor tasks 1 ≡ Some 9
  pub frame_first : on_bus 8 frames 0 ≡ Some 2000
  pub frame_second : on_bus 8 frames 1 ≡ Some 3000
  -- the case in which an equation without the frame itself once promised 3,000, and 3,500 can happen
  pub frame_third : on_bus 8 frames 2 ≡ None
  -- a frame waits for one of its own row: twice 55 ticks fit a period of 110, and none less
  pub frame_fits : on_bus 1 (alone 110 55) 0 ≡ Some 110
  pub frame_late : on_bus 1 (alone 109 55) 0 ≡ None
  -- so one of 110 ticks needs a period of 220
  pub frame_longer : on_bus 1 (alone 110 110) 0 ≡ None
  pub frame_double : on_bus 1 (alone 220 110) 0 ≡ Some 220
  -- a release at the very end does not count, with jitter it does
  pub not_at_end : on_processor (under_five 0) 1 ≡ Some 5
  pub with_jitter : on_processor (under_five 1) 1 ≡ Some 7
  -- much jitter above
  pub much_jitter : on_processor (told 0 3 7 1 1 ∷ (told 1 100 0 1 1 ∷ [])) 1 ≡ Some 5
  -- response and jitter may fill the period
  pub just_fits : on_processor (told 0 10 7 3 3 ∷ []) 0 ≡ Some 3
  pub just_late : on_processor (told 0 10 8 3 3 ∷ []) 0 ≡ None
  -- the bit time stands inside the ceiling
  pub bit_of_20 : on_bus 20 short_frames 1 ≡ Some 3
  pub bit_of_30 : on_bus 30 short_frames 1 ≡ Some 4
  -- a frame waits for a longer one below it
  pub longer_below : on_bus 1 (told 0 100 0 5 5 ∷ (told 1 100 0 9 9 ∷ [])) 0 ≡ Some 14
  -- no bus has bit time 0
  pub no_bit : on_bus 0 frames 0 ≡ None
