-- The first table comes of the answers to empty windows.
use Rattle.std.proofs.Common.{sym, ◌∙◌, arith}
use Rattle.settle.proofs.Leads.{least_high, front_first, told_alike}
use Rattle.settle.proofs.Moves.{made_none}
use Rattle.settle.proofs.Stale.{fresh_none, fresh_after}
use Rattle.settle.proofs.sweeps.Sweeps.begin.Goals as goal

pub lead-requires : goal.lead-requires
lead-requires g c =
    let network = c.args.self.now.network.now in
    let told = told_alike _ _ _ _ _ c.requires.empty c.consult.new.answers c.consult.ensures in
    least_high _ _ _ network.valid c.consult.new.answers told _ (g.met.R.Rule.lawful network.rule.now)

pub returns-clause-first : goal.returns-clause-first
returns-clause-first g c =
    let network = c.args.self.now.network.now in
    let few = network.valid.size in
    let told = told_alike _ _ _ _ _ c.requires.empty c.consult.new.answers c.consult.ensures in
    made_none _ _ _ _ (front_first _ _ _ network.valid c.consult.new.answers told c.lead.new.windows (omega (arith, c.lead.ensures.long)) c.lead.ensures.led)

pub invariant_of-self : goal.invariant_of-self
invariant_of-self g c = record { fresh = fresh_none _ _ _ c.args.self.now.network.now.valid _ _ _ c.requires.stale }

pub invariant_of-self-2 : goal.invariant_of-self-2
invariant_of-self-2 g c = record { fresh = fresh_none _ _ _ c.args.self.now.network.now.valid _ _ _ c.requires.stale }

pub invariant_of-self-4 : goal.invariant_of-self-4
invariant_of-self-4 g c =
    let few = c.args.self.now.network.now.valid.size in
    let told = told_alike _ _ _ _ _ (c.requires.empty ∙ sym c.requires.next) c.consult.new.answers c.consult.ensures in
    record { fresh = fresh_after _ _ c.args.self.now.network.now.items.now c.args.self.now.next c.lead.new.windows c.stale_resources-self.result c.consult.new.answers (omega arith) (omega (arith, c.lead.ensures.long)) told c.stale_resources-self.ensures }
