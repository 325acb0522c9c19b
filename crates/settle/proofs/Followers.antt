-- The window of an item by that of its predecessor.
use Rattle.std.proofs.Common.{◌≡◌, ℕ, ◌*◌, ◌<◌, ◌≤◌, ◌≢◌, List, length, set, Some, Option, sym, ap, ◌∙◌, subst, ⊎_elim, arith, get_or-set_other, get_or-set_same}
use lib.ListN.{length-map}
use lib.Seq.{map-set}
use Rattle.service.specs.declared.Response.{Response}
use Rattle.items.specs.declared.Item.{Item}
use Rattle.items.specs.Items.{item_at}
use Rattle.items.specs.Valid.{Valid}
use Rattle.tables.specs.Demands.{Span, span}
use Rattle.tables.proofs.Chains.{Link, head_or_link}
use Rattle.consult.specs.declared.window.Window.{Window}
use Rattle.consult.specs.Windows.{span_of, spans_of}
use Rattle.consult.specs.Chains.{link, Linked}
use Rattle.consult.proofs.Links.{head_link, follower_link, place_low}
use Rattle.consult.specs.Answers.{answer}
use Rattle.settle.specs.Passes.{Narrow, Agree, head_window, lead_after, window_from, window_by}

module _ (ws : List Window) (i : ℕ) (w : Window) where
  pub set_others : (k : ℕ) → k < i → span (spans_of (set ws i w)) k ≡ span (spans_of ws) k
  set_others k h = let ne : k ≢ i = omega arith in rw (map-set span_of ws i w) (rw get_or-set_other)

  pub set_here : i < length ws → span (spans_of (set ws i w)) i ≡ span_of w
  set_here h = let lt : i < length (spans_of ws) = rw length-map h in rw (map-set span_of ws i w) (rw get_or-set_same)

module _ (bits : List ℕ) (xs : List Item) (valid : Valid bits xs) (answers : List Response) (k : ℕ) where
  module _ (f : Span → Response → Span) (ws : List Span) where
    pub by_head : (item_at xs k).predecessor ≡ 0 → window_by f xs ws answers k ≡ head_window (item_at xs k).delay
    by_head z = ap (window_from f (item_at xs k) ws answers) (head_link bits xs valid k z)

    pub by_link : (l : Link xs k) → window_by f xs ws answers k ≡ f (span ws l.at) (answer answers l.at)
    by_link l = ap (window_from f (item_at xs k) ws answers) (follower_link bits xs valid k l)

  -- only earlier windows count
  pub by_earlier : (f : Span → Response → Span) (ws vs : List Span) → k < length xs → Agree ws vs k → window_by f xs ws answers k ≡ window_by f xs vs answers k
  by_earlier f ws vs h agree =
      ⊎_elim
      (λ z. by_head f ws z ∙ sym (by_head f vs z))
      (λ l. by_link f ws l ∙ ap (λ (w : Span). f w (answer answers l.at)) (agree l.at l.earlier) ∙ sym (by_link f vs l))
      (head_or_link bits xs valid k h)

  -- a window of the first table opens low if the earlier ones do
  pub lead_low : (ws : List Span) → k < length xs → ((j : ℕ) → j < length xs → (answer answers j).least ≤ 20000000) → ((j : ℕ) → j < k → (span ws j).from ≤ 20000000 * j) → (window_by lead_after xs ws answers k).from ≤ 20000000 * k
  lead_low ws h leasts low =
      ⊎_elim
      (λ z. rw (by_head lead_after ws z) (omega arith))
      (λ l.
      let earlier = l.earlier in
      let before = low l.at earlier in
      let least = leasts l.at l.below in
      rw (by_link lead_after ws l) (omega arith))
      (head_or_link bits xs valid k h)

  -- so each of its windows is in range
  pub lead_narrow : (ws : List Span) → k < length xs → ((j : ℕ) → j < length xs → (answer answers j).least ≤ 20000000) → ((j : ℕ) → j < k → (span ws j).from ≤ 20000000 * j) → Narrow (window_by lead_after xs ws answers k)
  lead_narrow ws h leasts low =
      let few = valid.size in
      ⊎_elim
      (λ z. let delay = ((valid.each k h).head z).2 in rw (by_head lead_after ws z) (record { ordered = omega arith; near = omega arith; high = omega arith }))
      (λ l.
      let earlier = l.earlier in
      let before = low l.at earlier in
      let least = leasts l.at l.below in
      rw (by_link lead_after ws l) (record { ordered = omega arith; near = omega arith; high = omega arith }))
      (head_or_link bits xs valid k h)

-- a link leads to a place in the front
pub link_low : (bits : List ℕ) (xs : List Item) → Valid bits xs → (ls : List (Option ℕ)) → Linked xs ls → (k : ℕ) → k < length xs → (j : ℕ) → link ls k ≡ Some j → j < 256
link_low bits xs valid ls linked k h j is = place_low bits xs valid k j h (sym (linked k h) ∙ is)

-- what a window in range asks of that of its predecessor
pub narrow_from : (f : Span → Response → Span) (xs : List Item) (ws : List Span) (answers : List Response) (ls : List (Option ℕ)) → Linked xs ls → (k : ℕ) → k < length xs → Narrow (window_by f xs ws answers k)
    → (j : ℕ) (w : Window) → link ls k ≡ Some j → span_of w ≡ span ws j → Narrow (f (span_of w) (answer answers j))
narrow_from f xs ws answers ls linked k h narrow j w is read =
    subst Narrow (ap (window_from f (item_at xs k) ws answers) (sym (linked k h) ∙ is) ∙ ap (λ (v : Span). f v (answer answers j)) (sym read)) narrow
