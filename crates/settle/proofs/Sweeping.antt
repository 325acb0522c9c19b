-- A sweep from the answers of a rule.
use Rattle.std.proofs.Common.{◌≡◌, ℕ, ◌+◌, ◌<◌, ◌≤◌, List, length, sym, ◌∙◌, subst, ⊎_elim, arith}
use Rattle.service.specs.declared.Response.{Response}
use Rattle.service.specs.Numbers.{Numbers}
use Rattle.items.specs.declared.Item.{Item}
use Rattle.items.specs.Valid.{Valid}
use Rattle.tables.specs.Demands.{Span, span}
use Rattle.tables.specs.Tables.{worst_or_0, AllBounded, next_window, swept}
use Rattle.tables.proofs.Chains.{head_or_link}
use Rattle.tables.proofs.Swept as tables
use Rattle.consult.specs.declared.window.Window.{Window}
use Rattle.consult.specs.Answers.{Answered, answer}
use Rattle.consult.specs.Windows.{spans_of, front}
use Rattle.consult.proofs.Fronts.{front_at, front_is}
use Rattle.settle.specs.Answers.{AllAnswered, LowestNone}
use Rattle.settle.specs.Passes.{Narrow, after, window_by, Renewed}
use Rattle.settle.specs.Settled.{Lowest}
use Rattle.settle.proofs.Followers.{by_head, by_link, by_earlier}

module _ (rule : Numbers) (bits : List ℕ) (xs : List Item) (valid : Valid bits xs) where
  module _ (ws : List Span) (answers : List Response) (told : Answered rule bits xs ws answers) where
    pub all_bounded : AllAnswered answers (length xs) → AllBounded rule bits xs ws
    all_bounded all k h = let w = all k h in (w.0, sym (told.worst k h) ∙ w.1)

    pub lowest : (at : ℕ) → LowestNone answers (length xs) at → Lowest rule bits xs ws at
    lowest at low = record {
      within = low.within;
      none = sym (told.worst at low.within) ∙ low.none;
      before = λ k h. let w = low.before k h in (w.0, sym (told.worst k (omega (arith, low.within))) ∙ w.1);
    }

    swept_at : (k : ℕ) → k < length xs → span (swept rule bits xs ws) k ≡ window_by after xs ws answers k
    swept_at k h =
        ⊎_elim
        (λ z. tables.by_head rule bits xs (next_window rule bits xs ws) k h z ∙ sym (by_head bits xs valid answers k after ws z))
        (λ l.
        let j = l.at in
        let new : next_window rule bits xs ws k j ≡ after (span ws j) (answer answers j) = λ i. record {
          from = (span ws j).from + sym (told.least j l.below) i;
          to = (span ws j).to + worst_or_0 (sym (told.worst j l.below) i);
        } in
        tables.by_link rule bits xs valid (next_window rule bits xs ws) k h l ∙ new ∙ sym (by_link bits xs valid answers k after ws l))
        (head_or_link bits xs valid k h)

  -- one sweep, from the windows in an array to those in the next
  module _ (ws : List Window) (answers : List Response) (told : Answered rule bits xs (front (length xs) ws) answers) where
    new_at : (k : ℕ) → k < length xs → span (swept rule bits xs (front (length xs) ws)) k ≡ window_by after xs (spans_of ws) answers k
    new_at k h =
        swept_at (front (length xs) ws) answers told k h
        ∙ by_earlier bits xs valid answers k after (front (length xs) ws) (spans_of ws) h (λ j hj. front_at ws (length xs) j (omega arith))

    pub renewable : ((k : ℕ) → k < length xs → Narrow (span (swept rule bits xs (front (length xs) ws)) k)) → (k : ℕ) → k < length xs → Narrow (window_by after xs (spans_of ws) answers k)
    renewable narrow k h = subst Narrow (new_at k h) (narrow k h)

    pub front_swept : (next : List Window) → length xs ≤ length next → Renewed xs (spans_of ws) answers (spans_of next) → front (length xs) next ≡ swept rule bits xs (front (length xs) ws)
    front_swept next room new =
        front_is next (length xs) room (swept rule bits xs (front (length xs) ws)) (tables.by_length rule bits xs (next_window rule bits xs (front (length xs) ws)))
        (λ k h. new k h ∙ sym (new_at k h))
