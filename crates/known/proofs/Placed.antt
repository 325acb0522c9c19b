-- A plan is valid if its items can be placed one after another on a plan just opened.
use Rattle.std.proofs.Common.{◌≡◌, ℕ, List, [], ◌∷◌, Some, None, Option, refl, subst, arith}
use Rattle.items.specs.declared.Item.{Item}
use Rattle.items.specs.declared.Refusal.{Refusal}
use Rattle.items.specs.Items.{with_item}
use Rattle.items.specs.Conditions.{open_refusal, place_refusal}
use Rattle.items.specs.Valid.{Valid}
use Rattle.items.specs.Ledger.{placed}
use Rattle.items.proofs.Kept.{opens_valid, edits_keep_valid}

-- the items with those of the second list placed, if none is refused
abbrev pub all_placed : List ℕ → List Item → List Item → Option (List Item)
all_placed bits xs [] = Some xs
all_placed bits xs (y ∷ ys) = elim (place_refusal bits xs y) [ None ↦ all_placed bits (with_item y xs) ys | Some r ↦ None ]

-- the items of a new plan after these placements, if nothing is refused
abbrev pub built : List ℕ → List Item → Option (List Item)
built bits ys = elim (open_refusal bits) [ None ↦ all_placed bits [] ys | Some r ↦ None ]

placed_valid : (bits : List ℕ) (xs ys zs : List Item) → Valid bits xs → all_placed bits xs ys ≡ Some zs → Valid bits zs
placed_valid bits xs [] zs valid e = let same : xs ≡ zs = cc in subst (λ us. Valid bits us) same valid
placed_valid bits xs (y ∷ ys) zs valid e = go (place_refusal bits xs y) refl e (λ ok. placed_valid bits (with_item y xs) ys zs (edits_keep_valid bits xs (placed y) valid ok))
  where
    go : (o : Option Refusal) → place_refusal bits xs y ≡ o → elim o [ None ↦ all_placed bits (with_item y xs) ys | Some r ↦ None ] ≡ Some zs
        → (place_refusal bits xs y ≡ None → all_placed bits (with_item y xs) ys ≡ Some zs → Valid bits zs) → Valid bits zs
    go None is e later = later is e
    go (Some r) is e later = let z : ◌≡◌ {A = ℕ} 0 1 = cc in absurd (omega arith)

pub built_valid : (bits : List ℕ) (ys zs : List Item) → built bits ys ≡ Some zs → Valid bits zs
built_valid bits ys zs e = go (open_refusal bits) refl e
  where
    go : (o : Option Refusal) → open_refusal bits ≡ o → elim o [ None ↦ all_placed bits [] ys | Some r ↦ None ] ≡ Some zs → Valid bits zs
    go None is e = placed_valid bits [] ys zs (opens_valid bits is) e
    go (Some r) is e = let z : ◌≡◌ {A = ℕ} 0 1 = cc in absurd (omega arith)
