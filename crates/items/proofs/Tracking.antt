-- A plan tracks the ledger, visit by visit.
use Rattle.std.proofs.Common.{◌≡◌, ℕ, zero, suc, ◌+◌, ◌≤◌, min, List, [], ◌∷◌, length, drop, Some, None, Option, sym, refl, ap, ◌∙◌, arith}
use Rattle.items.specs.declared.Entry.{Entry}
use Rattle.items.specs.declared.Item.{Item}
use Rattle.items.specs.declared.Refusal.{Refusal}
use Rattle.items.specs.Ledger.{Edit, edited, edit_refusal, Visit, edit, undo, settle, Ledger, opened, standing, after_edits, booked, struck, taken_back, fed, fed_all, no_undo}
use Rattle.items.specs.Journal.{State, fresh, entry_for, noted, undone, undone_newest, made, reverted, visited, visited_all, nothing_noted, standing_before, WellKept, Tracks}
use Rattle.items.specs.Stands.{Followed, VisitsFollow, Follows, FollowsLedger}
use Rattle.items.proofs.Kept.{noted_length, made_back, visits_keep}

drop_struck : (k : ℕ) (es : List Edit) → drop k (struck es) ≡ drop (suc k) es
drop_struck zero [] = refl
drop_struck (suc k) [] = refl
drop_struck k (e ∷ es) = refl

undo_answer : (es : List Entry) (n : ℕ) → length es ≡ n → nothing_noted es ≡ no_undo n
undo_answer [] zero e = refl
undo_answer [] (suc n) e = absurd (omega arith)
undo_answer (x ∷ es) zero e = absurd (omega arith)
undo_answer (x ∷ es) (suc n) e = refl

module _ (l : Ledger) (s : State) (kept : WellKept s) (t : Tracks l s) where
  module _ (e : Edit) where
    same_refusal : edit_refusal s.bits s.items e ≡ edit_refusal l.bits (standing l) e
    same_refusal = ap (λ (bits : List ℕ). edit_refusal bits s.items e) t.bits ∙ ap (λ (xs : List Item). edit_refusal l.bits xs e) t.items

    made_tracks : edit_refusal s.bits s.items e ≡ None → Tracks (booked l e None) (made s e None)
    made_tracks accepted = record {
      bits = t.bits;
      items = ap (edited e) t.items;
      count = omega (arith, noted_length (entry_for s.items e) s.journal, t.count);
      back = back;
    }
      where
        back : (k : ℕ) → k ≤ min 32 (l.count + 1) → undone_newest k (noted (entry_for s.items e) s.journal) (edited e s.items) ≡ after_edits l.first (drop k (e ∷ l.edits))
        back zero h = ap (edited e) t.items
        back (suc k) h = made_back s kept e accepted k (omega arith) ∙ t.back k (omega arith)

    edit_tracks : (o : Option Refusal) → edit_refusal s.bits s.items e ≡ o → Tracks (booked l e o) (made s e o)
    edit_tracks None is = made_tracks is
    edit_tracks (Some r) is = t

    edit_followed : Followed l s (edit e)
    edit_followed = record { answers = same_refusal; tracks = rw (← same_refusal) (edit_tracks (edit_refusal s.bits s.items e) refl) }

  undo_tracks : (es : List Entry) (n : ℕ) → s.journal ≡ es → l.count ≡ n → length es ≡ n → Tracks (taken_back l n) (reverted s es)
  undo_tracks [] zero is count long = t
  undo_tracks [] (suc n) is count long = absurd (omega arith)
  undo_tracks (x ∷ es) zero is count long = absurd (omega arith)
  undo_tracks (x ∷ es) (suc n) is count long = record { bits = t.bits; items = earlier 0 (omega arith); count = omega arith; back = earlier }
    where
      earlier : (k : ℕ) → k ≤ n → undone_newest k es (undone x s.items) ≡ after_edits l.first (drop k (struck l.edits))
      earlier k h =
          sym (ap (λ (js : List Entry). undone_newest (suc k) js s.items) is)
          ∙ (t.back (suc k) (omega arith) ∙ ap (after_edits l.first) (sym (drop_struck k l.edits)))

  followed : (v : Visit) → Followed l s v
  followed (edit e) = edit_followed e
  followed undo = record { answers = undo_answer s.journal l.count t.count; tracks = undo_tracks s.journal l.count refl refl t.count }
  followed settle = record { answers = refl; tracks = t }

start_tracks : (bits : List ℕ) (first : List Item) → Tracks (opened bits first) (fresh bits first)
start_tracks bits first = record { bits = refl; items = refl; count = refl; back = back }
  where
    back : (k : ℕ) → k ≤ 0 → undone_newest k [] first ≡ standing_before k (opened bits first)
    back zero h = refl
    back (suc k) h = refl

pub visits_follow : VisitsFollow
visits_follow = record { start = start_tracks; visit = λ l s v kept t. followed l s kept t v }

follows_from : (vs : List Visit) (l : Ledger) (s : State) → WellKept s → Tracks l s → Follows (fed_all l vs) (visited_all s vs)
follows_from [] l s kept t = record { items = t.items; answers = λ v. (followed l s kept t v).answers; kept = kept; tracks = t }
follows_from (v ∷ vs) l s kept t = follows_from vs (fed l v) (visited s v) (visits_keep.visit s v kept) (followed l s kept t v).tracks

pub follows_ledger : FollowsLedger
follows_ledger bits first valid vs = follows_from vs (opened bits first) (fresh bits first) (visits_keep.start bits first valid) (start_tracks bits first)
