-- What a sweep finds and leaves.
use Rattle.std.proofs.Common.{length, refl, sym, ◌∙◌, arith}
use Rattle.consult.specs.Windows.{front}
use Rattle.settle.proofs.Sweeping.{all_bounded, lowest, renewable, front_swept}
use Rattle.settle.proofs.Moves.{made_at, made_more, still_here, narrow_next, failing_here}
use Rattle.settle.proofs.Stale.{fresh_after, told_renewed}
use Rattle.settle.proofs.sweeps.Sweeps.sweep.Goals as goal

pub returns-in-Some-clause-swept : goal.returns-in-Some-clause-swept
returns-in-Some-clause-swept g c =
    let network = c.args.self.now.network.now in
    let few = network.valid.size in
    let told = told_renewed _ _ _ _ _ _ c.renew.new.answers c.args.self.now.fresh c.renew.ensures in
    (refl, failing_here _ _ _ _ _ c.requires.made _ (g.met.R.Rule.lawful network.rule.now) network.valid c.in-Some.place (lowest _ _ _ network.valid _ c.renew.new.answers told c.in-Some.place c.in-Some.ensures))

pub renew_windows-requires : goal.renew_windows-requires
renew_windows-requires g c =
    let network = c.args.self.now.network.now in
    let few = network.valid.size in
    let told = told_renewed _ _ _ _ _ _ c.renew.new.answers c.args.self.now.fresh c.renew.ensures in
    let all = all_bounded _ _ _ network.valid _ c.renew.new.answers told c.in_default.ensures in
    renewable _ _ _ network.valid c.args.self.now.windows c.renew.new.answers told (narrow_next _ _ _ _ _ c.requires.made _ (g.met.R.Rule.lawful network.rule.now) network.valid all)

pub returns-then-not-altered-clause-swept : goal.returns-then-not-altered-clause-swept
returns-then-not-altered-clause-swept g c =
    let network = c.args.self.now.network.now in
    let few = network.valid.size in
    let told = told_renewed _ _ _ _ _ _ c.renew.new.answers c.args.self.now.fresh c.renew.ensures in
    let all = all_bounded _ _ _ network.valid _ c.renew.new.answers told c.in_default.ensures in
    let new = front_swept _ _ _ network.valid c.args.self.now.windows c.renew.new.answers told c.renew_windows.new.next (omega (arith, c.renew_windows.ensures.long)) c.renew_windows.ensures.renewed in
    (still_here _ _ _ _ _ c.requires.made all (sym new ∙ sym c.if-not-altered.ensures), c.requires.made.is, told)

pub invariant_of-self-7 : goal.invariant_of-self-7
invariant_of-self-7 g c =
    let network = c.args.self.now.network.now in
    let few = network.valid.size in
    let told = told_renewed _ _ _ _ _ _ c.renew.new.answers c.args.self.now.fresh c.renew.ensures in
    record { fresh = fresh_after _ _ network.items.now c.args.self.now.windows c.renew_windows.new.next c.stale_resources-self.result c.renew.new.answers (omega arith) (omega (arith, c.renew_windows.ensures.long)) told c.stale_resources-self.ensures }

pub returns-clause-swept : goal.returns-clause-swept
returns-clause-swept g c =
    let network = c.args.self.now.network.now in
    let few = network.valid.size in
    let told = told_renewed _ _ _ _ _ _ c.renew.new.answers c.args.self.now.fresh c.renew.ensures in
    let all = all_bounded _ _ _ network.valid _ c.renew.new.answers told c.in_default.ensures in
    let new = front_swept _ _ _ network.valid c.args.self.now.windows c.renew.new.answers told c.renew_windows.new.next (omega (arith, c.renew_windows.ensures.long)) c.renew_windows.ensures.renewed in
    made_at _ _ _ _ c.args.number _ (omega arith) (made_more _ _ _ _ _ c.requires.made all (front (length network.items.now) c.renew_windows.new.next) new c.if-not-altered.ensures)
