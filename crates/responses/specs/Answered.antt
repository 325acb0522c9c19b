-- What is answered for the rows of a resource, and how it is printed.
use Rattle.std.specs.Prelude.{◌≡◌, ℕ, ◌+◌, ◌<◌, List, [], ◌∷◌, ◌++◌, length, Some, None, codes, decimal, Option, slice_index_or}
use Rattle.service.specs.declared.Record.{Record}
use Rattle.service.specs.declared.Response.{Response}
use Rattle.service.specs.Answers.{answered_least, answered_worst}
use Rattle.bounds.specs.Equations.{processor_worst, bus_worst, least_demand}
use Rattle.rules.specs.Layers.{by_bit}

-- what stands beyond the answers
abbrev pub no_answer : Response
no_answer = record { least = 0; worst = None }

-- there is an answer for each of n places, and it is that place's least and worst
pub record Answered (least : ℕ → ℕ) (worst : ℕ → Option ℕ) (n : ℕ) (answers : List Response) : Type 0 where
  pub count : length answers ≡ n
  pub least_at : (k : ℕ) → k < n → (slice_index_or answers k no_answer).least ≡ least k
  pub worst_at : (k : ℕ) → k < n → (slice_index_or answers k no_answer).worst ≡ worst k

-- the least response of the row at a place, on a processor and on a bus
abbrev pub least_of : List Record → ℕ → ℕ
least_of records place = answered_least least_demand records place

-- the worst response of the row at a place: on a processor at bit time 0, on a bus at any other
abbrev pub worst_of : ℕ → List Record → ℕ → Option ℕ
worst_of bit records place = by_bit (λ b. answered_worst processor_worst records place) (λ b. answered_worst (bus_worst b) records place) bit

-- how a worst is printed
abbrev pub worst_word : Option ℕ → List ℕ
worst_word None = codes "none"
worst_word (Some w) = decimal w

-- the place, the least and the worst
abbrev pub answer_line : ℕ → Response → List ℕ
answer_line place a = decimal place ++ (codes " " ++ (decimal a.least ++ (codes " " ++ worst_word a.worst)))

-- a line for each answer, the places counted from n on
abbrev pub answer_lines : ℕ → List Response → List ℕ
answer_lines n [] = []
answer_lines n (a ∷ rest) = (answer_line n a ++ (10 ∷ [])) ++ answer_lines (n + 1) rest
