-- What a rule answers for the items of a plan, an answer for each.
use Rattle.std.specs.Prelude.{◌≡◌, ℕ, ◌-◌, ◌<◌, Bool, true, false, List, length, None, ◌≢◌, slice_index_or}
use Rattle.service.specs.declared.Record.{Record}
use Rattle.service.specs.declared.Response.{Response}
use Rattle.items.specs.declared.Item.{Item}
use Rattle.items.specs.Items.{item_at}
use Rattle.tables.specs.Demands.{Span, place_on}
use Rattle.service.specs.Numbers.{Numbers}
use Rattle.tables.specs.Tables.{least_at, worst_at}

-- what stands beyond the answers
abbrev pub no_answer : Response
no_answer = record { least = 0; worst = None }

-- the answer for the item at a place
abbrev pub answer : List Response → ℕ → Response
answer told k = slice_index_or told k no_answer

-- the rule's answer for the row at a place
pub record Says (rule : Numbers) (bit : ℕ) (rs : List Record) (p : ℕ) (a : Response) : Type 0 where
  pub least : a.least ≡ rule.least bit rs p
  pub worst : a.worst ≡ rule.worst bit rs p

-- the answers for the items on a resource, and the others as they were
pub record AnsweredOn (rule : Numbers) (bit : ℕ) (rs : List Record) (r : ℕ) (xs : List Item) (old new : List Response) : Type 0 where
  pub on : (k : ℕ) → k < length xs → (item_at xs k).resource ≡ r → Says rule bit rs (place_on xs k) (answer new k)
  pub others : (k : ℕ) → ((item_at xs k).resource ≢ r) → answer new k ≡ answer old k

-- the answers for the items whose resource is marked, from a table, and the others as they were
pub record Renewed (rule : Numbers) (bits : List ℕ) (xs : List Item) (ws : List Span) (marks : List Bool) (old new : List Response) : Type 0 where
  pub least : (k : ℕ) → k < length xs → slice_index_or marks ((item_at xs k).resource - 1) false ≡ true → (answer new k).least ≡ least_at rule bits xs ws k
  pub worst : (k : ℕ) → k < length xs → slice_index_or marks ((item_at xs k).resource - 1) false ≡ true → (answer new k).worst ≡ worst_at rule bits xs ws k
  pub others : (k : ℕ) → k < length xs → slice_index_or marks ((item_at xs k).resource - 1) false ≡ false → answer new k ≡ answer old k

-- the answers for all items, from a table
pub record Answered (rule : Numbers) (bits : List ℕ) (xs : List Item) (ws : List Span) (told : List Response) : Type 0 where
  pub least : (k : ℕ) → k < length xs → (answer told k).least ≡ least_at rule bits xs ws k
  pub worst : (k : ℕ) → k < length xs → (answer told k).worst ≡ worst_at rule bits xs ws k
