-- From what is computed of a plan to what a settle of it comes to.
use Rattle.std.proofs.Common.{◌≡◌, ℕ, ◌-◌, ◌≤◌, Bool, true, ◌&&◌, leb, List, length, Some, sym, ap, ◌∙◌, subst}
use Rattle.std.proofs.lemmas.Bool.{and_parts, leb-true}
use Rattle.items.specs.declared.Item.{Item}
use Rattle.items.specs.Items.{item_at}
use Rattle.tables.specs.Demands.{Span, span}
use Rattle.tables.specs.Tables.{table}
use Rattle.tables.specs.Stands.{FinishWindows}
use Rattle.tables.proofs.Settling.{settling}
use Rattle.known.specs.Rule.{over}
use Rattle.known.specs.Comes.{SettlesTo, UnboundedAt, UnsettledWithin}
use Rattle.known.proofs.Placed.{built, built_valid}
use Rattle.known.proofs.Tests.{rests, moves, moving, still, fails, lowest, finished, finished_size, finished_windows}
use Rattle.known.proofs.Quick.{quick, quick_same, allows, quick_lawful}

-- whether a count of sweeps is within a budget
abbrev pub counted : ℕ → ℕ → Bool
counted budget sweeps = leb 1 sweeps && leb sweeps budget

within : (budget sweeps : ℕ) → counted budget sweeps ≡ true → (1 ≤ sweeps) × (sweeps ≤ budget)
within budget sweeps h = let both = and_parts (leb 1 sweeps) (leb sweeps budget) h in (leb-true 1 sweeps both.0, leb-true sweeps budget both.1)

module _ (s : ℕ) {bits : List ℕ} {xs : List Item} {budget : ℕ} (placed : built bits xs ≡ Some xs) where
  pub settles_to : {sweeps : ℕ} {finishes : List Span} → counted budget sweeps ≡ true
      → moves (quick s) bits xs (sweeps - 1) (table (quick s) bits xs 0) ≡ true
      → rests (quick s) bits xs (table (quick s) bits xs (sweeps - 1)) ≡ true
      → finished (quick s) bits xs (table (quick s) bits xs (sweeps - 1)) ≡ finishes
      → SettlesTo (over s) bits xs budget sweeps finishes
  settles_to {sweeps} {finishes} count before rest are =
      let ws = table (quick s) bits xs (sweeps - 1) in
      let fits = within budget sweeps count in
      subst (λ r. SettlesTo r bits xs budget sweeps finishes) (quick_same s) (record {
        valid = built_valid bits xs xs placed;
        ends = (fits.0, fits.1, still (quick s) bits xs (sweeps - 1) before rest);
        size = ap length (sym are) ∙ finished_size (quick s) bits xs ws;
        windows = subst (λ vs. FinishWindows (quick s) bits xs ws (λ k. span vs k)) are (finished_windows (quick s) bits xs ws);
      })

  pub unbounded_at : (at : ℕ) {item resource sweep : ℕ} → counted budget sweep ≡ true
      → moves (quick s) bits xs (sweep - 1) (table (quick s) bits xs 0) ≡ true
      → fails (quick s) bits xs (table (quick s) bits xs (sweep - 1)) at ≡ true
      → item ≡ (item_at xs at).number → resource ≡ (item_at xs at).resource
      → UnboundedAt (over s) bits xs budget item resource sweep
  unbounded_at at {item} {resource} {sweep} count before fail is on =
      let valid = built_valid bits xs xs placed in
      let low = lowest (quick s) bits xs (table (quick s) bits xs (sweep - 1)) at fail in
      let fits = within budget sweep count in
      subst (λ r. UnboundedAt r bits xs budget item resource sweep) (quick_same s) (record {
        valid = valid;
        ends = (
          fits.0,
          fits.1,
          record {
            before = moving (quick s) bits xs (sweep - 1) before;
            at = at;
            lowest = low;
            item = is;
            on = on;
            hopeless = (settling (allows s) (quick s) (quick_lawful s) bits xs valid).none (sweep - 1) at low.within low.none;
          },
        );
      })

  pub unsettled_within : moves (quick s) bits xs budget (table (quick s) bits xs 0) ≡ true → UnsettledWithin (over s) bits xs budget
  unsettled_within before =
      subst (λ r. UnsettledWithin r bits xs budget) (quick_same s) (record { valid = built_valid bits xs xs placed; ends = moving (quick s) bits xs budget before })
