-- The sweeps come to one answer only: a sweep that alters a window is neither the last nor one that fails.
use Rattle.std.proofs.Common.{◌≡◌, ℕ, ◌-◌, ◌≤◌, List, Some, None, Ok, Err, Option, refl, ap, subst, ⊎_elim, arith}
use Rattle.std.proofs.lemmas.Bool.{cases_lt, cases_order}
use Rattle.items.specs.declared.Item.{Item}
use Rattle.tables.specs.Demands.{Span}
use Rattle.service.specs.Numbers.{Numbers}
use Rattle.tables.specs.Tables.{worst_at, table}
use Rattle.settle.specs.declared.Fault.TheVariants.{Budget, TableShort, Unbounded, Unsettled}
use Rattle.settle.specs.Settled.{Lowest, Moving, Still, Failing, Ends}
use Rattle.known.specs.Once.{OneWay}

-- nothing is both some number and none
either_way : (o : Option ℕ) → ((w : ℕ) × (o ≡ Some w)) → o ≡ None → ⊥
either_way o some none = let w = some.1 in let z : ◌≡◌ {A = ℕ} 0 1 = cc in omega arith

module _ (rule : Numbers) (bits : List ℕ) (xs : List Item) where
  -- no later sweep alters a window
  still_ends : (n m : ℕ) → Still rule bits xs n → Moving rule bits xs m → m ≤ n
  still_ends n m last moving = ⊎_elim (λ less. absurd (moving.altered n less last.same)) (λ le. le) (cases_lt n m)

  -- no later sweep has a worst for every item
  failing_ends : (n m number resource : ℕ) → Failing rule bits xs n number resource → Moving rule bits xs m → m ≤ n
  failing_ends n m number resource fails moving =
      ⊎_elim (λ less. absurd (either_way _ (moving.bounded n less fails.at fails.lowest.within) fails.lowest.none)) (λ le. le) (cases_lt n m)

  -- the last sweep does not fail
  never_both : (n m number resource : ℕ) → Still rule bits xs n → Failing rule bits xs m number resource → ⊥
  never_both n m number resource last fails =
      let low = still_ends n m last fails.before in
      let high = failing_ends m n number resource fails last.before in
      let same : n ≡ m = omega arith in
      either_way _ (subst (λ k. (w : ℕ) × (worst_at rule bits xs (table rule bits xs k) fails.at ≡ Some w)) same (last.bounded fails.at fails.lowest.within)) fails.lowest.none

  same_lowest : (ws : List Span) (at to : ℕ) → Lowest rule bits xs ws at → Lowest rule bits xs ws to → at ≡ to
  same_lowest ws at to l m =
      ⊎_elim
      (λ e. e)
      (⊎_elim (λ less. absurd (either_way _ (m.before at less) l.none)) (λ less. absurd (either_way _ (l.before to less) m.none)))
      (cases_order at to)

  module _ (budget : ℕ) where
    both_still : (n m : ℕ) → Ends rule bits xs budget (Ok n) → Ends rule bits xs budget (Ok m) → n ≡ m
    both_still n m e f =
        omega (arith, e.0, f.0, still_ends (n - 1) (m - 1) e.2 f.2.before, still_ends (m - 1) (n - 1) f.2 e.2.before)

    both_failing : (i r n j q m : ℕ) → Ends rule bits xs budget (Err (Unbounded i r n)) → Ends rule bits xs budget (Err (Unbounded j q m)) → Unbounded i r n ≡ Unbounded j q m
    both_failing i r n j q m e f =
        let low = failing_ends (n - 1) (m - 1) i r e.2 f.2.before in
        let high = failing_ends (m - 1) (n - 1) j q f.2 e.2.before in
        let sweep : n ≡ m = omega (arith, e.0, f.0) in
        let here = subst (λ k. Lowest rule bits xs (table rule bits xs (k - 1)) e.2.at) sweep e.2.lowest in
        let at : e.2.at ≡ f.2.at = same_lowest (table rule bits xs (m - 1)) e.2.at f.2.at here f.2.lowest in
        cc (e.2.item, e.2.on, f.2.item, f.2.on)

pub one_way : OneWay
one_way rule bits xs budget (Ok n) (Ok m) e f = ap Ok (both_still rule bits xs budget n m e f)
one_way rule bits xs budget (Ok n) (Err Budget) e f = absurd f
one_way rule bits xs budget (Ok n) (Err TableShort) e f = absurd f
one_way rule bits xs budget (Ok n) (Err (Unbounded j q m)) e f = absurd (never_both rule bits xs (n - 1) (m - 1) j q e.2 f.2)
one_way rule bits xs budget (Ok n) (Err Unsettled) e f = absurd (omega (arith, e.0, e.1, still_ends rule bits xs (n - 1) budget e.2 f))
one_way rule bits xs budget (Err Budget) s e f = absurd e
one_way rule bits xs budget (Err TableShort) s e f = absurd e
one_way rule bits xs budget (Err (Unbounded i r n)) (Ok m) e f = absurd (never_both rule bits xs (m - 1) (n - 1) i r f.2 e.2)
one_way rule bits xs budget (Err (Unbounded i r n)) (Err Budget) e f = absurd f
one_way rule bits xs budget (Err (Unbounded i r n)) (Err TableShort) e f = absurd f
one_way rule bits xs budget (Err (Unbounded i r n)) (Err (Unbounded j q m)) e f = ap Err (both_failing rule bits xs budget i r n j q m e f)
one_way rule bits xs budget (Err (Unbounded i r n)) (Err Unsettled) e f = absurd (omega (arith, e.0, e.1, failing_ends rule bits xs (n - 1) budget i r e.2 f))
one_way rule bits xs budget (Err Unsettled) (Ok m) e f = absurd (omega (arith, f.0, f.1, still_ends rule bits xs (m - 1) budget f.2 e))
one_way rule bits xs budget (Err Unsettled) (Err Budget) e f = absurd f
one_way rule bits xs budget (Err Unsettled) (Err TableShort) e f = absurd f
one_way rule bits xs budget (Err Unsettled) (Err (Unbounded j q m)) e f = absurd (omega (arith, f.0, f.1, failing_ends rule bits xs (m - 1) budget j q f.2 e))
one_way rule bits xs budget (Err Unsettled) (Err Unsettled) e f = refl
