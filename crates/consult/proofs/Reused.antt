-- Rows that stay: a resource whose jitters have not changed has the same rows, so its answers hold for the new table as well.
use Rattle.std.proofs.Common.{◌≡◌, ℕ, suc, ◌-◌, ◌<◌, Bool, true, false, cond, eqb, List, [], ◌∷◌, length, get_or, replicate, refl, arith}
use lib.ListN.{get_or-replicate}
use Rattle.std.proofs.lemmas.Bool.{eqb-true}
use Rattle.items.specs.declared.Item.{Item}
use Rattle.items.specs.Items.{item_at}
use Rattle.items.specs.Valid.{Valid}
use Rattle.tables.specs.Demands.{Span, span, row_of, rows_on}

-- the windows of the items on a resource are as long in one table as in the other
abbrev pub AsLong : ℕ → List Item → List Span → List Span → Type 0
AsLong r xs ws vs = (k : ℕ) → k < length xs → (item_at xs k).resource ≡ r → (span ws k).to - (span ws k).from ≡ (span vs k).to - (span vs k).from

pub same_rows : (bits : List ℕ) (all : List Item) (r : ℕ) (xs : List Item) (ws vs : List Span) → length ws ≡ length xs → length vs ≡ length xs → AsLong r xs ws vs → rows_on bits all r xs ws ≡ rows_on bits all r xs vs
same_rows bits all r [] ws vs sw sv same = refl
same_rows bits all r (x ∷ xs) [] vs sw sv same = absurd (omega arith)
same_rows bits all r (x ∷ xs) (w ∷ ws) [] sw sv same = absurd (omega arith)
same_rows bits all r (x ∷ xs) (w ∷ ws) (v ∷ vs) sw sv same = go (eqb x.resource r) refl (same_rows bits all r xs ws vs (omega arith) (omega arith) (λ k h e. same (suc k) (omega arith) e))
  where
    go : (b : Bool) → eqb x.resource r ≡ b → rows_on bits all r xs ws ≡ rows_on bits all r xs vs → cond b (row_of bits all x w ∷ rows_on bits all r xs ws) (rows_on bits all r xs ws) ≡ cond b (row_of bits all x v ∷ rows_on bits all r xs vs) (rows_on bits all r xs vs)
    go true e rest =
        let jitter : w.to - w.from ≡ v.to - v.from = same 0 (omega arith) (eqb-true x.resource r e) in
        rw (jitter, rest)
    go false e rest = rest

-- every item's resource is among sixteen marks
pub all_marked : (bits : List ℕ) (xs : List Item) → Valid bits xs → (k : ℕ) → k < length xs → get_or (replicate 16 true) ((item_at xs k).resource - 1) false ≡ true
all_marked bits xs valid k h = let v = valid.each k h in get_or-replicate 16 ((item_at xs k).resource - 1) true false (omega (arith, v.resource_low, v.resource_high, valid.resources_high))
