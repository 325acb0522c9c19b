-- The pieces make up the file, and have its length.
use Rattle.std.proofs.Common.{◌≡◌, length, ap, ◌∙◌, subst, arith}
use Rattle.plan.specs.Views.{view}
use Rattle.buffers.specs.Fronts.{Filled}
use Rattle.layout.specs.Format.{file_of}
use Rattle.layout.proofs.Pieces.{length_file, filled_file}
use Rattle.files.proofs.write.write.Goals as goal

pub returns : goal.returns
returns c =
    let bits = c.bit_times-bits.result.now in
    let xs = c.items-items.result.now in
    let old = c.args.buffer.now in
    let new = c.put_each.new.buffer in
    let same : file_of bits xs ≡ file_of (view c.args.plan.now).bits (view c.args.plan.now).items = λ i. file_of (c.bit_times-bits.ensures i) (c.items-items.ensures i) in
    let filled : Filled (file_of bits xs) old new =
    filled_file bits xs old _ _ _ new c.sizes.result _ _ _ c.sizes.ensures c.put-end.ensures.place c.put-end-2.ensures.place c.put_each-end.ensures.place
    c.put-end.ensures.bytes c.put-end-2.ensures.bytes c.put_each-end.ensures.bytes c.put_each.ensures.bytes in
    let size : c.put_each.result ≡ length (file_of bits xs) =
    omega (arith, length_file bits xs, ap length c.sizes.ensures, c.put-end.ensures.place, c.put-end-2.ensures.place, c.put_each-end.ensures.place, c.put_each.ensures.place) in
    let whole = size ∙ ap length same in
    (whole, omega (arith, c.in_ok-check_room.ensures, c.size_of.ensures), subst (λ l. Filled l old new) same filled)
