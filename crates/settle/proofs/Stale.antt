-- The answers that still hold for another table.
use Rattle.std.proofs.Common.{◌≡◌, ℕ, ◌+◌, ◌-◌, ◌<◌, ◌≤◌, Bool, true, false, List, length, get_or, replicate, set, sym, refl, ap, ◌∙◌, subst, ⊎_elim, get_or-set_other, get_or-set_same, below_more}
use Rattle.std.proofs.lemmas.Bool.{cases_Bool, cases_eq, false≢true}
use Rattle.service.specs.declared.Record.{Record}
use Rattle.service.specs.declared.Response.{Response}
use Rattle.service.specs.Numbers.{Numbers}
use Rattle.items.specs.declared.Item.{Item}
use Rattle.items.specs.Items.{item_at}
use Rattle.items.specs.Conditions.{bit_time_of}
use Rattle.items.specs.Valid.{Valid}
use Rattle.tables.specs.Demands.{Span, span, rows_on, place_on}
use Rattle.consult.specs.declared.window.Window.{Window}
use Rattle.consult.specs.Answers.{Renewed, Answered}
use Rattle.consult.specs.Windows.{spans_of, front, jitter_of}
use Rattle.consult.proofs.Fronts.{front_at, front_length}
use Rattle.consult.proofs.Reused.{AsLong, same_rows, all_marked}
use Rattle.settle.specs.Passes.{mark_of, Marked}
use Rattle.settle.specs.Sweeps.{Fresh}

-- a mark more
set_off : (marks : List Bool) (i j : ℕ) → i < length marks → get_or (set marks i true) j false ≡ false → (j ≡ i → ⊥) × (get_or marks j false ≡ false)
set_off marks i j h off =
    ⊎_elim
    (λ (e : j ≡ i). absurd (false≢true (sym (subst (λ (n : ℕ). get_or (set marks i true) n false ≡ false) e off) ∙ get_or-set_same marks i true false h)))
    (λ (ne : j ≡ i → ⊥). (ne, sym (get_or-set_other marks i j true false ne) ∙ off))
    (cases_eq j i)

module _ (xs : List Item) (ws vs : List Span) (marks : List Bool) (n : ℕ) (before : Marked xs ws vs marks n) where
  pub marked_same : jitter_of (span ws n) ≡ jitter_of (span vs n) → Marked xs ws vs marks (n + 1)
  marked_same same = below_more _ _ before (λ off. same)

  pub marked_more : (item_at xs n).resource - 1 < length marks → Marked xs ws vs (set marks ((item_at xs n).resource - 1) true) (n + 1)
  marked_more h =
      below_more _ _
      (λ k lt off. before k lt (set_off marks _ ((item_at xs k).resource - 1) h off).1)
      (λ off. absurd ((set_off marks _ _ h off).0 refl))

-- of answers that are all stale nothing is claimed
pub fresh_none : (rule : Numbers) (bits : List ℕ) (xs : List Item) → Valid bits xs → (ws : List Span) (marks : List Bool) (answers : List Response) → marks ≡ replicate 16 true → Fresh rule bits xs ws marks answers
fresh_none rule bits xs valid ws marks answers all = record {
  least = λ k h off. absurd (false≢true (sym off ∙ ap (λ (ms : List Bool). mark_of ms (item_at xs k)) all ∙ all_marked bits xs valid k h));
  worst = λ k h off. absurd (false≢true (sym off ∙ ap (λ (ms : List Bool). mark_of ms (item_at xs k)) all ∙ all_marked bits xs valid k h));
}

-- two tables of windows that differ in length only where a resource is marked have one list of answers where it is not
pub fresh_after : (rule : Numbers) (bits : List ℕ) (xs : List Item) (ws vs : List Window) (marks : List Bool) (answers : List Response) → length xs ≤ length ws → length xs ≤ length vs
    → Answered rule bits xs (front (length xs) ws) answers → Marked xs (spans_of ws) (spans_of vs) marks (length xs) → Fresh rule bits xs (front (length xs) vs) marks answers
fresh_after rule bits xs ws vs marks answers rooms roomy told marked = record {
  least = λ k h off. told.least k h ∙ ap (λ (rs : List Record). rule.least (bit_time_of bits (item_at xs k).resource) rs (place_on xs k)) (rows k off);
  worst = λ k h off. told.worst k h ∙ ap (λ (rs : List Record). rule.worst (bit_time_of bits (item_at xs k).resource) rs (place_on xs k)) (rows k off);
}
  where
    as_long : (k : ℕ) → mark_of marks (item_at xs k) ≡ false → AsLong (item_at xs k).resource xs (front (length xs) ws) (front (length xs) vs)
    as_long k off j h e =
        let same = marked j h (ap (λ (r : ℕ). get_or marks (r - 1) false) e ∙ off) in
        ap jitter_of (front_at ws (length xs) j h) ∙ same ∙ sym (ap jitter_of (front_at vs (length xs) j h))

    rows : (k : ℕ) → mark_of marks (item_at xs k) ≡ false → rows_on bits xs (item_at xs k).resource xs (front (length xs) ws) ≡ rows_on bits xs (item_at xs k).resource xs (front (length xs) vs)
    rows k off = same_rows bits xs (item_at xs k).resource xs _ _ (front_length ws (length xs) rooms) (front_length vs (length xs) roomy) (as_long k off)

-- answers renewed where a resource is marked, and those that held where it is not, are all the answers
pub told_renewed : (rule : Numbers) (bits : List ℕ) (xs : List Item) (ws : List Span) (marks : List Bool) (old new : List Response) → Fresh rule bits xs ws marks old → Renewed rule bits xs ws marks old new → Answered rule bits xs ws new
told_renewed rule bits xs ws marks old new fresh renewed = record {
  least = λ k h. ⊎_elim (λ on. renewed.least k h on) (λ off. ap (λ (a : Response). a.least) (renewed.others k h off) ∙ fresh.least k h off) (cases_Bool (mark_of marks (item_at xs k)));
  worst = λ k h. ⊎_elim (λ on. renewed.worst k h on) (λ off. ap (λ (a : Response). a.worst) (renewed.others k h off) ∙ fresh.worst k h off) (cases_Bool (mark_of marks (item_at xs k)));
}
