-- The first table from the answers to empty windows.
use Rattle.std.proofs.Common.{◌≡◌, ℕ, zero, suc, ◌+◌, ◌<◌, ◌≤◌, List, length, sym, ap, ◌∙◌, subst, ⊎_elim, not-suc-le-zero, arith}
use Rattle.service.specs.declared.Record.{Record}
use Rattle.service.specs.declared.Response.{Response}
use Rattle.service.specs.Traces.{Trace}
use Rattle.service.specs.Numbers.{Numbers}
use Rattle.service.specs.Laws.{LawfulRule}
use Rattle.items.specs.declared.Item.{Item}
use Rattle.items.specs.Items.{item_at}
use Rattle.items.specs.Valid.{Valid}
use Rattle.tables.specs.Demands.{Span, span}
use Rattle.tables.specs.Tables.{blank, lead, first_window, first_table}
use Rattle.tables.proofs.Chains.{Link, head_or_link}
use Rattle.tables.proofs.Ranges.{blank_range}
use Rattle.tables.proofs.Swept.{lead_none, lead_next}
use Rattle.tables.proofs.Swept as tables
use Rattle.consult.specs.declared.window.Window.{Window}
use Rattle.consult.specs.Answers.{Answered, answer}
use Rattle.consult.specs.Windows.{spans_of, front}
use Rattle.consult.proofs.Fronts.{front_is}
use Rattle.settle.specs.Passes.{lead_after, Led}
use Rattle.settle.proofs.Followers.{by_head, by_link}

module _ (rule : Numbers) (bits : List ℕ) (xs : List Item) (valid : Valid bits xs) (answers : List Response) (told : Answered rule bits xs (blank rule bits xs) answers) where
  -- the leasts of the empty windows are in range
  pub least_high : (allows : ℕ → List Record → Trace → Type 0) → LawfulRule allows rule → (k : ℕ) → k < length xs → (answer answers k).least ≤ 20000000
  least_high allows laws k h = let e = told.least k h in let high = (blank_range allows rule laws bits xs valid k h).0.1 in omega arith

  module _ (ws : List Span) (led : Led xs answers ws (length xs)) where
    led_head : (k : ℕ) → k < length xs → (item_at xs k).predecessor ≡ 0 → span ws k ≡ record { from = 0; to = (item_at xs k).delay }
    led_head k h z = led k h ∙ by_head bits xs valid answers k lead_after ws z

    led_link : (k : ℕ) → k < length xs → (l : Link xs k) → span ws k ≡ lead_after (span ws l.at) (answer answers l.at)
    led_link k h l = led k h ∙ by_link bits xs valid answers k lead_after ws l

    led_opens : (n k : ℕ) → k < n → k < length xs → (span ws k).from ≡ lead rule bits xs k
    led_opens zero k lt h = absurd (not-suc-le-zero lt)
    led_opens (suc n) k lt h =
        ⊎_elim
        (λ z. ap (λ (w : Span). w.from) (led_head k h z) ∙ sym (lead_none rule bits xs valid (length xs) k z))
        (λ l.
        let from = ap (λ (w : Span). w.from) (led_link k h l) in
        let before = led_opens n l.at (omega (arith, l.earlier)) l.below in
        let least = told.least l.at l.below in
        let step = lead_next rule bits xs valid (length xs) k h h l in
        omega arith)
        (head_or_link bits xs valid k h)

    led_first : (k : ℕ) → k < length xs → span ws k ≡ span (first_table rule bits xs) k
    led_first k h =
        ⊎_elim
        (λ z. led_head k h z ∙ sym (tables.by_head rule bits xs (first_window rule bits xs) k h z))
        (λ l.
        let opens : (span ws l.at).from + (answer answers l.at).least ≡ lead rule bits xs k = ap (λ (w : Span). w.from) (sym (led_link k h l)) ∙ led_opens (length xs) k h h in
        led_link k h l ∙ ap (λ (n : ℕ). record { from = n; to = n }) opens ∙ sym (tables.by_link rule bits xs valid (first_window rule bits xs) k h l))
        (head_or_link bits xs valid k h)

  pub front_first : (ws : List Window) → length xs ≤ length ws → Led xs answers (spans_of ws) (length xs) → front (length xs) ws ≡ first_table rule bits xs
  front_first ws room led = front_is ws (length xs) room (first_table rule bits xs) (tables.by_length rule bits xs (first_window rule bits xs)) (led_first (spans_of ws) led)

-- one table has the answers of another that is the same
pub told_alike : (rule : Numbers) (bits : List ℕ) (xs : List Item) (ws vs : List Span) → ws ≡ vs → (answers : List Response) → Answered rule bits xs ws answers → Answered rule bits xs vs answers
told_alike rule bits xs ws vs same answers = subst (λ (us : List Span). Answered rule bits xs us answers) same
