-- A plan that tracks the ledger gives the ledger's answer to the next visit, and tracks the ledger after it.
use Rattle.std.proofs.Common.{◌≡◌, ℕ, zero, suc, ◌+◌, ◌<◌, ◌⊎◌, List, [], ◌∷◌, ◌++◌, map, length, get_or, take, Ok, Option, sym, refl, ap, ◌∙◌, subst, inl, inr, arith, length-append}
use Rattle.std.proofs.lemmas.List.{map_more, get_or_append_left, get_or_push}
use Rattle.std.proofs.lemmas.Bool.{cases_eq}
use Rattle.service.specs.declared.Record.{Record}
use Rattle.service.specs.Traces.{Trace}
use Rattle.items.specs.declared.Item.{Item}
use Rattle.items.specs.declared.Refusal.{Refusal}
use Rattle.items.specs.Ledger.{Ledger, fed, fed_all, opened, standing, refusal}
use Rattle.items.specs.Ledger.{Visit as Told}
use Rattle.items.specs.Journal.{State, fresh, visited, answer, WellKept, Tracks}
use Rattle.items.specs.Stands.{Followed}
use Rattle.items.proofs.Tracking.{visits_follow}
use Rattle.service.specs.Numbers.{Numbers}
use Rattle.visits.specs.declared.visit.Answer.{Answer}
use Rattle.visits.specs.declared.visit.Visit.{Visit}
use Rattle.visits.specs.declared.visit.Visit.TheVariants.{Undo}
use Rattle.visits.specs.Visits.{asked, ledger_after}
use Rattle.visits.specs.Answers.{Right}
use Rattle.visits.specs.declared.visit.Answer.TheVariants.{Edited}
use Rattle.visits.specs.Replays.{visit_at, answer_at, RightAt, Replayed}

-- the ledger is fed the visits one by one
fed_last : (l : Ledger) (ts : List Told) (t : Told) → fed_all l (ts ++ (t ∷ [])) ≡ fed (fed_all l ts) t
fed_last l [] t = refl
fed_last l (u ∷ ts) t = fed_last (fed l u) ts t

pub ledger_next : {R : Type 0} (bits : List ℕ) (first : List Item) (vs : List (Visit R)) (k : ℕ) → k < length vs
    → ledger_after bits first vs (k + 1) ≡ fed (ledger_after bits first vs k) (asked (visit_at vs k))
ledger_next bits first vs k h = ap (fed_all (opened bits first)) (map_more asked vs k Undo h) ∙ fed_last (opened bits first) (map asked (take k vs)) (asked (visit_at vs k))

-- so a plan that tracks it does so after the next visit
pub tracks_next : {R : Type 0} (bits : List ℕ) (first : List Item) (vs : List (Visit R)) (k : ℕ) (s t : State) → k < length vs → WellKept s
    → Tracks (ledger_after bits first vs k) s → t ≡ visited s (asked (visit_at vs k)) → Tracks (ledger_after bits first vs (k + 1)) t
tracks_next bits first vs k s t h kept tracks next =
    let f : Followed (ledger_after bits first vs k) s (asked (visit_at vs k)) = visits_follow.visit (ledger_after bits first vs k) s (asked (visit_at vs k)) kept tracks in
    subst (λ (l : Ledger). Tracks l t) (sym (ledger_next bits first vs k h)) (subst (Tracks (fed (ledger_after bits first vs k) (asked (visit_at vs k)))) (sym next) f.tracks)

-- and its answer is right by the ledger
pub right_by_ledger : {R : Type 0} (allows : R → ℕ → List Record → Trace → Type 0) (numbers : R → Numbers) (l : Ledger) (s : State) (v : Visit R) (a : Answer) → WellKept s → Tracks l s
    → Right allows numbers (answer s (asked v)) s.bits s.items v a → Right allows numbers (refusal l (asked v)) l.bits (standing l) v a
right_by_ledger allows numbers l s v a kept tracks right =
    let f : Followed l s (asked v) = visits_follow.visit l s (asked v) kept tracks in
    subst (λ (o : Option Refusal). Right allows numbers o l.bits (standing l) v a) f.answers
    (subst (λ (bits : List ℕ). Right allows numbers (answer s (asked v)) bits (standing l) v a) tracks.bits
    (subst (λ (xs : List Item). Right allows numbers (answer s (asked v)) s.bits xs v a) tracks.items right))

-- what stands at a place is the same whatever would stand past the end
same_default : {X : Type 0} (xs : List X) (k : ℕ) (d e : X) → k < length xs → get_or xs k d ≡ get_or xs k e
same_default [] k d e h = absurd (omega arith)
same_default (x ∷ xs) zero d e h = refl
same_default (x ∷ xs) (suc k) d e h = same_default xs k d e (omega arith)

pub told_at : {R : Type 0} (vs : List (Visit R)) (k : ℕ) (v : Visit R) → k < length vs → v ≡ get_or vs k v → v ≡ visit_at vs k
told_at vs k v h is = is ∙ same_default vs k v Undo h

-- the first k visits were answered as the ledger says, and the plan tracks it
module _ {R : Type 0} (allows : R → ℕ → List Record → Trace → Type 0) (numbers : R → Numbers) (bits : List ℕ) (vs : List (Visit R)) where
  pub record Upto (k : ℕ) (s : State) (answers : List Answer) : Type 0 where
    pub count : length answers ≡ k
    pub tracks : Tracks (ledger_after bits [] vs k) s
    pub right : (j : ℕ) → j < k → RightAt allows numbers bits [] vs answers j

  pub upto_none : (s : State) (answers : List Answer) → answers ≡ [] → s ≡ fresh bits [] → Upto 0 s answers
  upto_none s answers none new = record {
    count = ap length none;
    tracks = subst (Tracks (opened bits [])) (sym new) (visits_follow.start bits []);
    right = λ j h. absurd (omega arith);
  }

  pub upto_more : (k : ℕ) (s t : State) (olds news : List Answer) (v : Visit R) (a : Answer) → Upto k s olds → k < length vs → WellKept s → v ≡ visit_at vs k → t ≡ visited s (asked v)
      → Right allows numbers (answer s (asked v)) s.bits s.items v a → news ≡ olds ++ (a ∷ []) → Upto (k + 1) t news
  upto_more k s t olds news v a u h kept is next right grown = record {
    count = ap length grown ∙ simp length-append (omega (arith, u.count));
    tracks = tracks_next bits [] vs k s t h kept u.tracks (next ∙ ap (λ w. visited s (asked w)) is);
    right = λ j low. at j (cases_eq j k) low;
  }
    where
      l : Ledger
      l = ledger_after bits [] vs k

      here : RightAt allows numbers bits [] vs news k
      here =
          let last : answer_at news k ≡ a = ap (λ xs. answer_at xs k) grown ∙ get_or_push olds a (Edited (Ok tt)) k u.count in
          let by_state : Right allows numbers (answer s (asked (visit_at vs k))) s.bits s.items (visit_at vs k) (answer_at news k) =
          subst (Right allows numbers (answer s (asked (visit_at vs k))) s.bits s.items (visit_at vs k)) (sym last)
          (subst (λ (w : Visit R). Right allows numbers (answer s (asked w)) s.bits s.items w a) is right) in
          right_by_ledger allows numbers l s (visit_at vs k) (answer_at news k) kept u.tracks by_state

      at : (j : ℕ) → (j ≡ k) ⊎ (j ≡ k → ⊥) → j < k + 1 → RightAt allows numbers bits [] vs news j
      at j (inl same) low = subst (RightAt allows numbers bits [] vs news) (sym same) here
      at j (inr other) low =
          let before : answer_at news j ≡ answer_at olds j = ap (λ xs. answer_at xs j) grown ∙ get_or_append_left olds (a ∷ []) (Edited (Ok tt)) j (omega (arith, u.count)) in
          let m : Ledger = ledger_after bits [] vs j in
          subst (Right allows numbers (refusal m (asked (visit_at vs j))) m.bits (standing m) (visit_at vs j)) (sym before) (u.right j (omega arith))

  pub upto_all : (k : ℕ) (s : State) (answers : List Answer) → Upto k s answers → k ≡ length vs → Replayed allows numbers bits [] vs answers s.items
  upto_all k s answers u all = record {
    count = u.count ∙ all;
    each = λ j h. u.right j (omega arith);
    items = u.tracks.items ∙ ap (λ n. standing (ledger_after bits [] vs n)) all;
  }
