use Rattle.std.proofs.Common.{◌≡◌, List, ◌++◌, length, take, drop, vec_items, sym, ap, ◌∙◌, arith}
use Rattle.settle.specs.declared.WindowRow.{WindowRow}
use Rattle.plan.specs.Views.{view}
use Rattle.visits.proofs.Tabled.{tabled}
use Rattle.visits.proofs.visit.answers.settled.Goals as goal

pub returns-in-Ok : goal.returns-in-Ok
returns-in-Ok g c =
    let done = c.in-Ok.ensures in
    let old : List WindowRow = c.as_mut_slice.result.now in
    let new : List WindowRow = c.settle.new.table in
    let rest : List WindowRow = drop (length new) c.in_ok-table.table.items in
    let len : c.in_ok-table.table.len ≡ length old = sym c.as_mut_slice.ensures.len in
    let count : length c.items.result.now ≡ length (view c.args.plan.now).items = ap length c.items.ensures in
    let cut : vec_items c.truncate.new.self ≡ take (length (view c.args.plan.now).items) (take (length old) (new ++ rest)) =
    c.truncate.ensures.items ∙ ap (λ n. take n (take c.in_ok-table.table.len (new ++ rest))) count ∙ ap (λ n. take (length (view c.args.plan.now).items) (take n (new ++ rest))) len in
    (done.0, omega (arith, done.1, len, c.in_ok-table.ensures.len, c.min.ensures), done.2, tabled _ _ _ _ _ old new rest _ done.3 done.1 cut)
