use Rattle.std.proofs.Common.{◌≡◌, ℕ, ◌+◌, ◌≤◌, false, cond, eqb, None, Option, sym, ap, ◌∙◌, arith}
use Rattle.std.proofs.lemmas.Bool.{ne_eqb}
use Rattle.service.specs.declared.Record.{Record}
use Rattle.service.specs.Rows.{row}
use Rattle.service.proofs.Checks.{rows_since}
use Rattle.bounds.specs.Numbers.{solution}
use Rattle.bounds.specs.Equations.{above, longest, fitting, plus}
use Rattle.bounds.proofs.Sums.{longest_covers, longest_high}
use Rattle.rules.proofs.bus.worst_at.Goals as goal

-- the longest frame is at least the row's own, and a row's demand
pub invariant_of-wait : goal.invariant_of-wait
invariant_of-wait c =
    let rs = c.args.meant.rows.records.now in
    let p = c.args.meant.place in
    let fit = rows_since rs c.args.meant.rows.workable.all in
    let same = ap (λ (r : Record). longest r.priority rs) c.row-row.ensures in
    let own : (row rs p).greatest ≤ longest (row rs p).priority rs = longest_covers (row rs p).priority rs p c.args.meant.within (omega arith) in
    let most : longest (row rs p).priority rs ≤ 20000000 = longest_high (row rs p).priority rs fit in
    record { base_low = omega (arith, c.longest_from.ensures, own, same, (fit p c.args.meant.within).least_low, (fit p c.args.meant.within).least_high); base_high = omega (arith, c.longest_from.ensures, same, most) }

pub returns : goal.returns
returns c =
    let rs = c.args.meant.rows.records.now in
    let bit = c.args.bit_time in
    let by : Record → ℕ → Option ℕ = λ r base. fitting r (plus r.greatest (solution (λ n. base + above r.priority bit n rs) r.period)) in
    let test : eqb bit 0 ≡ false = ne_eqb bit 0 (omega arith) in
    let own : c.response.result ≡ by c.row-row.result.told c.longest_from.result = c.response.ensures in
    let base = ap (by c.row-row.result.told) c.longest_from.ensures in
    let place = ap (λ (r : Record). by r (longest r.priority rs)) c.row-row.ensures in
    let whole = ap (λ b. cond b None (by (row rs c.args.meant.place) (longest (row rs c.args.meant.place).priority rs))) test in
    own ∙ base ∙ place ∙ sym whole
