-- A whole list of visits to a plan just opened or read: every answer and the items at the end are the ledger's.
use Rattle.std.specs.Prelude.{◌≡◌, ℕ, ◌<◌, List, length, Ok, slice_index_or}
use Rattle.service.specs.declared.Record.{Record}
use Rattle.service.specs.Traces.{Trace}
use Rattle.items.specs.declared.Item.{Item}
use Rattle.items.specs.Ledger.{Ledger, standing, refusal}
use Rattle.service.specs.Numbers.{Numbers}
use Rattle.visits.specs.declared.visit.Answer.{Answer}
use Rattle.visits.specs.declared.visit.Answer.TheVariants.{Edited}
use Rattle.visits.specs.declared.visit.Visit.{Visit}
use Rattle.visits.specs.declared.visit.Visit.TheVariants.{Undo}
use Rattle.visits.specs.Visits.{asked, ledger_after}
use Rattle.visits.specs.Answers.{Right}

-- the visit at a place, and the answer at a place
abbrev pub visit_at : {R : Type 0} → List (Visit R) → ℕ → Visit R
visit_at vs k = slice_index_or vs k Undo

abbrev pub answer_at : List Answer → ℕ → Answer
answer_at answers k = slice_index_or answers k (Edited (Ok tt))

module _ {R : Type 0} (allows : R → ℕ → List Record → Trace → Type 0) (numbers : R → Numbers) (bits : List ℕ) (first : List Item) (vs : List (Visit R)) where
  -- the answer at k is the one that the ledger gives after the first k visits
  abbrev pub RightAt : List Answer → ℕ → Type 0
  RightAt answers k =
      let l : Ledger = ledger_after bits first vs k in
      Right allows numbers (refusal l (asked (visit_at vs k))) l.bits (standing l) (visit_at vs k) (answer_at answers k)

  pub record Replayed (answers : List Answer) (xs : List Item) : Type 0 where
    pub count : length answers ≡ length vs
    -- every visit, the refused ones too, is answered as the ledger says
    pub each : (k : ℕ) → k < length vs → RightAt answers k
    -- and the items at the end are the ledger's
    pub items : xs ≡ standing (ledger_after bits first vs (length vs))
