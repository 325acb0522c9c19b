use Rattle.std.proofs.Common.{◌≡◌, true, Result, sym, subst, arith, MatchResult}
use Rattle.service.specs.declared.Response.{Response}
use Rattle.service.specs.declared.row.Row.{Row}
use Rattle.service.specs.Rows.{row}
use Rattle.service.specs.Answers.{admitted, Refused, all_rows}
use Rattle.service.proofs.Checks.{Admits, found}
use Rattle.service.proofs.row.Row.meant.Goals as goal

pub returns : goal.returns
returns c =
    let rs = c.args.records.now in
    let p = c.args.place in
    let all : all_rows rs ≡ true = sym c.if-not-are_rows.ensures in
    let open_to : Admits rs p = record { all = all; place = omega arith; few = omega arith } in
    let P : Result Row Response → Type 0 = λ r. MatchResult r (λ w. (admitted rs p ≡ true) × (w.told ≡ row rs p)) (Refused rs p) in
    subst P (sym c.ok_or.ensures.value) (found rs p c.of.result _ open_to c.of.ensures)
