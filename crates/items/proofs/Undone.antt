-- An accepted edit's entry takes it back.
use Rattle.std.proofs.Common.{◌≡◌, ℕ, ◌<◌, Bool, true, false, cond, eqb, ltb, List, [], ◌∷◌, Some, None, Option, sym, refl, ap, ◌∙◌, inl, inr, arith}
use Rattle.std.proofs.lemmas.Bool.{or_parts, eq-eqb, lt-ltb, le-ltb}
use Rattle.items.specs.declared.Item.{Item}
use Rattle.items.specs.declared.Work.{Work}
use Rattle.items.specs.Items.{item_of, with_item, without_item, reworked, with_work}
use Rattle.items.specs.Conditions.{stands}
use Rattle.items.specs.Valid.{Valid}
use Rattle.items.specs.Ledger.{Edit, placed, withdrawn, retimed, edited, edit_refusal}
use Rattle.items.specs.Journal.{subject, entry_for, restored, undone}
use Rattle.items.proofs.Members.{In, Rising, members}
use Rattle.items.proofs.Accepted.{placeable}
use Rattle.items.proofs.Withdrawn.{without_stands}

pub without_absent : (n : ℕ) (xs : List Item) → stands n xs ≡ false → without_item n xs ≡ xs
without_absent n [] e = refl
without_absent n (y ∷ ys) e =
    let both = or_parts (eqb y.number n) (stands n ys) e in
    rw both.0 (ap (λ (zs : List Item). y ∷ zs) (without_absent n ys both.1))

without_with : (x : Item) (xs : List Item) → stands x.number xs ≡ false → without_item x.number (with_item x xs) ≡ xs
without_with x [] e = rw (eq-eqb x.number x.number refl)
without_with x (y ∷ ys) e =
    let both = or_parts (eqb y.number x.number) (stands x.number ys) e in
    go (ltb x.number y.number) both.0 (without_with x ys both.1)
  where
    go : (b : Bool) → eqb y.number x.number ≡ false → without_item x.number (with_item x ys) ≡ ys → without_item x.number (cond b (x ∷ (y ∷ ys)) (y ∷ with_item x ys)) ≡ y ∷ ys
    go true differ rest = rw (eq-eqb x.number x.number refl)
    go false differ rest = rw differ (ap (λ (zs : List Item). y ∷ zs) rest)

without_work : (n : ℕ) (w : Work) (xs : List Item) → without_item n (with_work n w xs) ≡ without_item n xs
without_work n w [] = refl
without_work n w (y ∷ ys) = go (eqb y.number n) refl (without_work n w ys)
  where
    go : (b : Bool) → eqb y.number n ≡ b → without_item n (with_work n w ys) ≡ without_item n ys → without_item n (cond b (reworked w y ∷ ys) (y ∷ with_work n w ys)) ≡ cond b ys (y ∷ without_item n ys)
    go true e rest = rw e
    go false e rest = rw e (ap (λ (zs : List Item). y ∷ zs) rest)

-- an item lower than all others comes first
with_lowest : (y : Item) (ys : List Item) → ((z : Item) → In z ys → y.number < z.number) → with_item y ys ≡ y ∷ ys
with_lowest y [] low = refl
with_lowest y (z ∷ zs) low = rw (lt-ltb y.number z.number (low z (inl refl)))

member : (n : ℕ) (x : Item) (xs : List Item) → item_of n xs ≡ Some x → In x xs
member n x [] e = let z : ◌≡◌ {A = ℕ} 0 1 = cc in absurd (omega arith)
member n x (y ∷ ys) e = go (eqb y.number n) e (member n x ys)
  where
    go : (b : Bool) → cond b (Some y) (item_of n ys) ≡ Some x → (item_of n ys ≡ Some x → In x ys) → In x (y ∷ ys)
    go true e rest = inl (cc)
    go false e rest = inr (rest e)

-- an item removed and put back has its own place again
back_in : (n : ℕ) (xs : List Item) → Rising xs → restored (item_of n xs) (without_item n xs) ≡ xs
back_in n [] up = refl
back_in n (y ∷ ys) up = go (eqb y.number n) (item_of n ys) refl (back_in n ys up.1)
  where
    go : (b : Bool) (o : Option Item) → item_of n ys ≡ o → restored (item_of n ys) (without_item n ys) ≡ ys → restored (cond b (Some y) (item_of n ys)) (cond b ys (y ∷ without_item n ys)) ≡ y ∷ ys
    go true o is rest = with_lowest y ys up.0
    go false None is rest = rw is (ap (λ (zs : List Item). y ∷ zs) (rw is at rest))
    go false (Some x) is rest =
        let less = up.0 x (member n x ys is) in
        let later : ltb x.number y.number ≡ false = le-ltb x.number y.number (omega arith) in
        rw (is, later) (ap (λ (zs : List Item). y ∷ zs) (rw is at rest))

pub undone_edit : (bits : List ℕ) (xs : List Item) (e : Edit) → Valid bits xs → edit_refusal bits xs e ≡ None → undone (entry_for xs e) (edited e xs) ≡ xs
undone_edit bits xs e valid accepted =
    let up = (members bits xs valid).rising in
    ap (restored (item_of (subject e) xs)) (same e accepted) ∙ back_in (subject e) xs up
  where
    same : (e : Edit) → edit_refusal bits xs e ≡ None → without_item (subject e) (edited e xs) ≡ without_item (subject e) xs
    same (placed x) accepted =
        let new = (placeable bits xs x accepted).new in
        without_with x xs new ∙ sym (without_absent x.number xs new)
    same (withdrawn n) accepted = without_absent n (without_item n xs) (without_stands n xs (members bits xs valid).rising)
    same (retimed n w) accepted = without_work n w xs
