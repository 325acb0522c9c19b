-- What is written to a caller's table, and what a settle answers.
use Rattle.std.proofs.Common.{◌≡◌, ℕ, ◌+◌, ◌-◌, ◌<◌, ◌≤◌, List, length, Ok, Err, Option, Result, sym, refl, ap, ◌∙◌, subst}
use Rattle.service.specs.declared.Record.{Record}
use Rattle.service.specs.declared.Response.{Response}
use Rattle.service.specs.Traces.{Trace}
use Rattle.items.specs.declared.Item.{Item}
use Rattle.items.specs.Items.{item_at}
use Rattle.items.specs.Valid.{Valid}
use Rattle.tables.specs.Demands.{Span, span}
use Rattle.service.specs.Numbers.{Numbers}
use Rattle.tables.specs.Tables.{worst_or_0, table}
use Rattle.service.specs.Laws.{LawfulRule}
use Rattle.tables.specs.Stands.{FinishWindows}
use Rattle.tables.proofs.Settling.{settling}
use Rattle.settle.specs.declared.Fault.{Fault}
use Rattle.settle.specs.declared.Fault.TheVariants.{Budget, TableShort, Unbounded, Unsettled}
use Rattle.consult.specs.declared.window.Window.{Window}
use Rattle.settle.specs.declared.WindowRow.{WindowRow}
use Rattle.consult.specs.Answers.{answer, Answered}
use Rattle.settle.specs.Rows.{row_at, row_for, release_of, finish_of}
use Rattle.settle.specs.Sweeps.{Left}
use Rattle.consult.specs.Windows.{spans_of, front}
use Rattle.consult.proofs.Fronts.{front_at}
use Rattle.settle.specs.Settled.{Still, Ends, Budgeted, Written, Settled}

module _ (allows : ℕ → List Record → Trace → Type 0) (rule : Numbers) (bits : List ℕ) (xs : List Item) where
  module _ (n : ℕ) (ws : List Span) (answers : List Response) (is : ws ≡ table rule bits xs n) (told : Answered rule bits xs ws answers) (old new : List WindowRow)
      (rows : (k : ℕ) → k < length xs → row_at new k ≡ row_for (item_at xs k).number (span ws k) (answer answers k)) where
    finish_windows : FinishWindows rule bits xs ws (λ k. finish_of (row_at new k))
    finish_windows = record {
      opens = λ k h. ap (λ (r : WindowRow). r.finish_open) (rows k h) ∙ ap (λ (l : ℕ). (span ws k).from + l) (told.least k h);
      closes = λ k w h e. ap (λ (r : WindowRow). r.finish_close) (rows k h) ∙ ap (λ (o : Option ℕ). (span ws k).to + worst_or_0 o) (told.worst k h ∙ e);
    }

    pub written : LawfulRule allows rule → Valid bits xs → Still rule bits xs n → length new ≡ length old → ((k : ℕ) → length xs ≤ k → row_at new k ≡ row_at old k) → Written allows rule bits xs (table rule bits xs n) old new
    written laws valid still size rest = record {
      size = size;
      numbers = λ k h. ap (λ (r : WindowRow). r.number) (rows k h);
      releases = λ k h. ap release_of (rows k h) ∙ ap (λ (vs : List Span). span vs k) is;
      finishes = (settling allows rule laws bits xs valid).true_windows n still.bounded still.same (λ k. finish_of (row_at new k)) (subst (λ (vs : List Span). FinishWindows rule bits xs vs (λ k. finish_of (row_at new k))) is finish_windows);
      rest = rest;
    }

  -- the count of the sweeps is the answer
  pub settled_count : (budget n : ℕ) (windows : List Window) (answers : List Response) (old new : List WindowRow) → LawfulRule allows rule → Valid bits xs → Budgeted budget → length xs ≤ length old
      → Ends rule bits xs budget (Ok n) → Left rule bits xs (front (length xs) windows) answers (Ok n) → length new ≡ length old
      → ((k : ℕ) → k < length xs → row_at new k ≡ row_for (item_at xs k).number (span (spans_of windows) k) (answer answers k)) → ((k : ℕ) → length xs ≤ k → row_at new k ≡ row_at old k)
      → Settled allows rule bits xs budget old new (Ok n)
  settled_count budget n windows answers old new laws valid in-budget room ends left size rows rest = (
    in-budget,
    room,
    ends,
    written (n - 1) (front (length xs) windows) answers left.0 left.1 old new
        (λ k h. rows k h ∙ ap (λ (w : Span). row_for (item_at xs k).number w (answer answers k)) (sym (front_at windows (length xs) k h)))
        laws valid ends.2 size rest,
  )

  -- a fault of the sweeps is the answer
  fault_answered : (budget : ℕ) (old : List WindowRow) (fault : Fault) → Budgeted budget → length xs ≤ length old → Ends rule bits xs budget (Err fault) → Settled allows rule bits xs budget old old (Err fault)
  fault_answered budget old Budget in-budget room ends = absurd ends
  fault_answered budget old TableShort in-budget room ends = absurd ends
  fault_answered budget old (Unbounded number resource n) in-budget room ends = (in-budget, room, ends, refl)
  fault_answered budget old Unsettled in-budget room ends = (in-budget, room, ends, refl)

  pub settled_fault : (budget : ℕ) (old : List WindowRow) (fault : Fault) (r : Result ℕ Fault) → r ≡ Err fault → Budgeted budget → length xs ≤ length old → Ends rule bits xs budget (Err fault) → Settled allows rule bits xs budget old old r
  settled_fault budget old fault r is in-budget room ends = subst (Settled allows rule bits xs budget old old) (sym is) (fault_answered budget old fault in-budget room ends)
