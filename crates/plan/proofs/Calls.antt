-- What each call leaves of a plan, from what it leaves of the plan's parts.
use Rattle.std.proofs.Common.{◌≡◌, ℕ, ◌<◌, ◌≤◌, List, ◌∷◌, length, set, Some, None, Option, Result, sym, ap, ◌∙◌, subst, arith, get_or}
use Rattle.std.proofs.lemmas.List.{get_or_default}
use Rattle.items.specs.declared.Entry.{Entry}
use Rattle.items.specs.declared.Item.{Item}
use Rattle.items.specs.declared.Refusal.{Refusal}
use Rattle.items.specs.declared.Work.{Work}
use Rattle.items.specs.Items.{no_item, item_at, item_of, with_item, without_item, reworked}
use Rattle.items.specs.Refusals.{as_result}
use Rattle.items.specs.Conditions.{place_refusal, withdraw_refusal, retime_checks, retime_of, retime_refusal, first_met}
use Rattle.items.specs.Places.{First}
use Rattle.items.specs.Ledger.{Edit, placed, withdrawn, retimed, edit_refusal, edit, undo}
use Rattle.items.specs.Journal.{State, noted, restored, undone, undone_newest, reverted, visited}
use Rattle.items.proofs.Accepted.{placeable}
use Rattle.items.proofs.Placed.{with_length}
use Rattle.items.proofs.Places.{no_record, record_at, work_at}
use Rattle.plan.specs.declared.Plan.{Plan}
use Rattle.plan.specs.declared.table.Table.{Table}
use Rattle.plan.specs.declared.journal.Journal.{Journal}
use Rattle.plan.specs.Tables.{items_in}
use Rattle.plan.specs.Journals.{entries_in}
use Rattle.plan.specs.States.{state_of}
use Rattle.plan.specs.Views.{view}
use Rattle.plan.proofs.Kept.{plan_kept, state_edited}

-- an answer for lists that are the plan's is the plan's
pub told : (s : State) (e : Edit) (bits : List ℕ) (xs : List Item) {r : Result Unit Refusal} → bits ≡ s.bits → xs ≡ s.items → r ≡ as_result (edit_refusal bits xs e) → r ≡ as_result (edit_refusal s.bits s.items e)
told s e bits xs is-bits is-items is =
    is ∙ ap as_result (ap (λ (b : List ℕ). edit_refusal b xs e) is-bits ∙ ap (λ (ys : List Item). edit_refusal s.bits ys e) is-items)

module _ (p : Plan) where
  module _ (x : Item) (accepted : place_refusal (view p).bits (view p).items x ≡ None) where
    pub place_room : length (items_in p.inner) < 256
    place_room = (placeable (view p).bits (view p).items x accepted).room

    pub placed_state : (t : Table) (j : Journal) → items_in t ≡ with_item x (items_in p.inner) → entries_in j ≡ noted (record { number = x.number; before = None }) (entries_in p.journal) → state_of p.resources t j ≡ visited (view p) (edit (placed x))
    placed_state t j items journal =
        let new = (placeable (view p).bits (view p).items x accepted).new in
        let none : item_of x.number (view p).items ≡ None = no_record x.number (view p).items new in
        state_edited (view p) (placed x) (items_in t) (entries_in j) accepted items (journal ∙ ap (λ (o : Option Item). noted (record { number = x.number; before = o }) (entries_in p.journal)) (sym none))

  pub withdrawn_state : (n : ℕ) → withdraw_refusal (view p).items n ≡ None → (before : Option Item) (t : Table) (j : Journal) → before ≡ item_of n (items_in p.inner) → items_in t ≡ without_item n (items_in p.inner) → entries_in j ≡ noted (record { number = n; before = before }) (entries_in p.journal) → state_of p.resources t j ≡ visited (view p) (edit (withdrawn n))
  withdrawn_state n accepted before t j is items journal =
      state_edited (view p) (withdrawn n) (items_in t) (entries_in j) accepted items (journal ∙ ap (λ (o : Option Item). noted (record { number = n; before = o }) (entries_in p.journal)) is)

  -- the item that is read at the first place of the number, from a list that is the plan's
  module _ (n : ℕ) (w : Work) (at : ℕ) (read : List Item) (own : read ≡ items_in p.inner) (here : First n read at) (d : Item) where
    first : First n (items_in p.inner) at
    first = subst (λ (xs : List Item). First n xs at) own here

    found : item_of n (items_in p.inner) ≡ Some (get_or read at d)
    found =
        record_at n (items_in p.inner) at first
        ∙ ap Some (get_or_default (items_in p.inner) at no_item d first.within ∙ ap (λ (xs : List Item). get_or xs at d) (sym own))

    -- the answer for it is the plan's
    pub retime_told : (bits : List ℕ) {r : Result Unit Refusal} → bits ≡ (view p).bits → r ≡ as_result (first_met (retime_checks bits (get_or read at d) w)) → r ≡ as_result (retime_refusal (view p).bits (view p).items n w)
    retime_told bits is-bits is =
        is ∙ ap as_result (ap (λ (b : List ℕ). first_met (retime_checks b (get_or read at d) w)) is-bits ∙ ap (λ (o : Option Item). retime_of (view p).bits o w) (sym found))

    pub retimed_state : retime_refusal (view p).bits (view p).items n w ≡ None → (t : Table) (j : Journal) → items_in t ≡ set (items_in p.inner) at (reworked w (item_at (items_in p.inner) at)) → entries_in j ≡ noted (record { number = n; before = Some (get_or read at d) }) (entries_in p.journal) → state_of p.resources t j ≡ visited (view p) (edit (retimed n w))
    retimed_state accepted t j items journal =
        state_edited (view p) (retimed n w) (items_in t) (entries_in j) accepted (items ∙ work_at n w (items_in p.inner) at first) (journal ∙ ap (λ (o : Option Item). noted (record { number = n; before = o }) (entries_in p.journal)) (sym found))

  module _ (e : Entry) (j : Journal) (newest : entries_in p.journal ≡ e ∷ entries_in j) where
    -- the record before has room again
    pub undo_room : (x : Item) → e.before ≡ Some x → (t : Table) → items_in t ≡ without_item e.number (items_in p.inner) → length (items_in t) < 256
    undo_room x is t items =
        let xs = (view p).items in
        let some : 1 ≤ length (view p).journal = rw newest (omega arith) in
        let after : length (undone_newest 1 (view p).journal xs) ≤ 256 = ((plan_kept p).valid 1 some).size in
        let undo_one : length (undone_newest 1 (e ∷ entries_in j) xs) ≤ 256 = subst (λ (es : List Entry). length (undone_newest 1 es xs) ≤ 256) newest after in
        let put : length (restored e.before (without_item e.number xs)) ≤ 256 = undo_one in
        let back : length (with_item x (without_item e.number xs)) ≤ 256 = subst (λ (o : Option Item). length (restored o (without_item e.number xs)) ≤ 256) is put in
        omega (arith, with_length x (without_item e.number xs), ap length items)

    pub undone_state : (t : Table) → items_in t ≡ undone e (items_in p.inner) → state_of p.resources t j ≡ visited (view p) undo
    undone_state t items =
        let back : ◌≡◌ {A = State} (state_of p.resources t j) (reverted (view p) (e ∷ entries_in j)) = λ i. record { bits = (view p).bits; items = items i; journal = entries_in j } in
        back ∙ sym (ap (reverted (view p)) newest)
