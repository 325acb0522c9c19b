-- The records are read one after the other; what is sent back is no plan's file, and what is not is the plan's.
use Rattle.std.proofs.Common.{◌≡◌, ℕ, ◌<◌, ◌+◌, true, take, List, Some, None, Err, Result, sym, ap, ◌∙◌, subst, arith, below_none, below_more, MatchResult}
use Rattle.items.specs.Journal.{State}
use Rattle.plan.specs.declared.Plan.{Plan}
use Rattle.layout.specs.declared.FileFault.{FileFault}
use Rattle.layout.specs.declared.FileFault.TheVariants.{BitTime, Record}
use Rattle.layout.specs.Reading.{ReadsAs, IsSentBack, NoFile, bits_of, items_of, bad_record}
use Rattle.std.proofs.lemmas.Result.{err_from_is_err_and}
use Rattle.items.specs.Conditions.{open_refusal}
use Rattle.plan.specs.Views.{view}
use Rattle.layout.specs.Reading.{Fitted, items_in}
use Rattle.layout.specs.Stands.{Bytes}
use Rattle.layout.proofs.Records.{SoFar, head_sent, head_shut, head_opens, no_file, read_all}
use Rattle.files.specs.declared.file.PlanFile.{PlanFile}
use Rattle.files.proofs.read.read.Goals as goal

-- the sizes of a file over these bytes are theirs
fitted : (file : PlanFile) (b : List ℕ) → file.bytes.now ≡ b → Fitted b file.resources file.items
fitted file b is = subst (λ l. Fitted l file.resources file.items) is file.fitted

-- a fault that is handed on
out : (b : List ℕ) (r : Result Plan FileFault) (x fault : FileFault) → r ≡ Err x → x ≡ fault → IsSentBack b fault → MatchResult r (λ p. ReadsAs b (view p)) (λ f. IsSentBack b f × NoFile b)
out b r x fault is same sent =
    let P : Result Plan FileFault → Type 0 = λ o. MatchResult o (λ p. ReadsAs b (view p)) (λ f. IsSentBack b f × NoFile b) in
    subst P (sym (is ∙ ap Err same)) (sent, no_file b fault sent)

pub returns-in_err-file : goal.returns-in_err-file
returns-in_err-file c =
    let b = c.args.bytes.now in
    let e = err_from_is_err_and c.from_residual.result c.from_residual.ensures.1 in
    out b c.from_residual.result e.0 c.in_err-file.field-0.0 e.1 e.2 (head_sent b _ c.in_err-file.ensures)

pub returns-in_default : goal.returns-in_default
returns-in_default c =
    let b = c.args.bytes.now in
    let told : c.bit_times.result.now ≡ bits_of b = c.bit_times.ensures ∙ ap bits_of c.in_ok-file.ensures in
    let shut : open_refusal (bits_of b) ≡ Some c.in_default.field-0 = sym (ap open_refusal told) ∙ c.in_default.ensures in
    let sent = head_shut b _ _ (fitted c.in_ok-file.file b c.in_ok-file.ensures) c.in_default.field-0 shut in
    (sent, no_file b BitTime sent)

pub loop-place-init : goal.loop-place-init
loop-place-init c =
    let b = c.in_ok-file.file.bytes.now in
    let opened = c.in-Ok.ensures in
    let opens : open_refusal (bits_of b) ≡ None = sym (ap open_refusal c.bit_times.ensures) ∙ opened.0 in
    record {
      head = head_opens b _ _ c.in_ok-file.file.fitted opens;
      bits = ap (λ (s : State). s.bits) opened.1 ∙ c.bit_times.ensures;
      items = ap (λ (s : State). s.items) opened.1;
      good = below_none _;
    }

pub returns-in_err-admit : goal.returns-in_err-admit
returns-in_err-admit c =
    let b = c.args.bytes.now in
    let k = c.loop-place.place in
    let e = err_from_is_err_and c.from_residual-in_err-admit.result c.from_residual-in_err-admit.ensures.1 in
    let admitted = c.in_err-admit.ensures in
    let read = c.record.ensures in
    let bad : bad_record c.in_ok-file.file.bytes.now k ≡ true = sym (λ i. bad_record (read.0 i) (read.1 i)) ∙ admitted.0 in
    let within : k < items_in c.in_ok-file.file.bytes.now = subst (λ n. k < n) c.count-place-end.ensures c.loop-place-test.true in
    let sent : IsSentBack c.in_ok-file.file.bytes.now (Record k) = (c.loop-place.invariant.head, record { within = within; bad = bad; before = c.loop-place.invariant.good }) in
    out b c.from_residual-in_err-admit.result e.0 (Record k) e.1 (e.2 ∙ admitted.1 ∙ ap Record read.1) (subst (λ l. IsSentBack l (Record k)) c.in_ok-file.ensures sent)

pub loop-place-preserved : goal.loop-place-preserved
loop-place-preserved c =
    let admitted = c.in_ok-admit.ensures in
    let read = c.record.ensures in
    record {
      head = c.loop-place.invariant.head;
      bits = admitted.1 ∙ ap bits_of read.0;
      items = admitted.2 ∙ (λ i. take (read.1 i + 1) (items_of (read.0 i)));
      good = below_more _ _ c.loop-place.invariant.good (sym (λ i. bad_record (read.0 i) (read.1 i)) ∙ admitted.0);
    }

pub returns : goal.returns
returns c =
    let b = c.args.bytes.now in
    let small : Bytes b = λ k below. omega (arith, c.type_inv.bytes k) in
    let all : c.loop-place.place ≡ items_in c.in_ok-file.file.bytes.now = omega (arith, c.count-place-end.ensures, c.loop-place-test.false, c.loop-place.auto.place-end) in
    let far : SoFar b (view c.loop-place.plan) (items_in b) =
    subst (λ l. SoFar l (view c.loop-place.plan) (items_in l)) c.in_ok-file.ensures (subst (SoFar c.in_ok-file.file.bytes.now (view c.loop-place.plan)) all c.loop-place.invariant) in
    read_all b _ _ (view c.loop-place.plan) (view c.forget.new.self) small (fitted c.in_ok-file.file b c.in_ok-file.ensures) far c.forget.ensures
