-- The first line and the lines of the rows fill the front.
use Rattle.std.proofs.Common.{◌≡◌, ◌++◌, length, ap, ◌∙◌, subst, arith, length-append}
use Rattle.std.specs.List.{flat_map}
use Rattle.buffers.specs.Fronts.{Pasted}
use Rattle.buffers.proofs.Fronts.{filled_from, pasted_more}
use Rattle.texts.specs.Texts.{row_line, sweeps_line}
use Rattle.texts.proofs.buffer.write_windows.Goals as goal

pub returns : goal.returns
returns c =
    let old = c.args.buffer.now in
    let new = c.put_each.new.buffer in
    let first = sweeps_line c.args.windows.sweeps in
    let rows = flat_map row_line c.args.windows.rows.now in
    let line : c.as_slice.result.now ≡ first = c.as_slice.ensures ∙ c.sweeps_line.ensures in
    let all : Pasted 0 (first ++ rows) old new =
    subst (λ l. Pasted 0 (l ++ rows) old new) line (pasted_more 0 c.put-behind.result old c.put-behind.new.buffer new _ rows (omega arith) c.put-behind.ensures.place c.put-behind.ensures.bytes c.put_each.ensures.bytes) in
    let size : c.put_each.result ≡ length (first ++ rows) = omega (arith, c.put-behind.ensures.place, c.put_each.ensures.place, ap length line, length-append first rows) in
    (size, omega (arith, c.in_ok-check_room.ensures), filled_from (first ++ rows) old new all)
