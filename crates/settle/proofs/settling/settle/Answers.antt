-- What a settle answers and writes.
use Rattle.std.proofs.Common.{◌≡◌, ℕ, List, length, Ok, refl, sym, ap, ◌∙◌, subst, rules, arith}
use Rattle.items.specs.declared.Item.{Item}
use Rattle.items.specs.Valid.{Valid}
use Rattle.plan.specs.declared.Plan.{Plan}
use Rattle.plan.specs.Views.{view}
use Rattle.plan.proofs.Kept.{plan_valid}
use Rattle.consult.proofs.Fronts.{front_empty}
use Rattle.consult.proofs.Links.{valid_none}
use Rattle.settle.specs.Settled.{Settled}
use Rattle.settle.proofs.Records.{settled_count}
use Rattle.settle.proofs.Stale.{fresh_none}
use Rattle.settle.proofs.settling.settle.Goals as goal

-- what the plan tells of itself is valid
told_valid : (p : Plan) (bits : List ℕ) (xs : List Item) → bits ≡ (view p).bits → xs ≡ (view p).items → Valid bits xs
told_valid p bits xs b x = subst (λ (ys : List Item). Valid bits ys) (sym x) (subst (λ (cs : List ℕ). Valid cs (view p).items) (sym b) (plan_valid p))

-- what holds of a network holds of the rule and the plan that it was made of
of_made : {R : Type 0} (P : R → List ℕ → List Item → Type 0) (r s : R) (bits cs : List ℕ) (xs ys : List Item) → r ≡ s → bits ≡ cs → xs ≡ ys → P r bits xs → P s cs ys
of_made P r s bits cs xs ys er eb ex p = subst (λ t. P t cs ys) er (subst (λ bs. P r bs ys) eb (subst (P r bits) ex p))

pub of_none-network-requires : goal.of_none-network-requires
of_none-network-requires g c = valid_none _ _ (told_valid c.args.plan.now c.bit_times.result.now c.items-items.result.now c.bit_times.ensures c.items-items.ensures)

pub take-requires : goal.take-requires
take-requires g c = told_valid c.args.plan.now c.of_none-network.result.bits.now c.items-items.result.now (c.of_none-network.ensures.bits ∙ c.bit_times.ensures) c.items-items.ensures

pub returns : goal.returns
returns g c =
    let network = c.run.new.self.network.now in
    let made = ap (λ b. b.now) c.in_ok-count.ensures.same in
    let taken = ap (λ b. b.now) c.take.ensures.items in
    let long : length network.items.now ≡ length c.items-items.result.now = ap (λ n. length n.items.now) made ∙ ap length taken in
    of_made
    (λ r b x. Settled (g.R.Rule.allows r) (g.R.Rule.numbers r) b x c.args.budget c.args.table.now c.write.new.table (Ok c.in_ok-count.count))
    network.rule.now c.args.rule.now network.bits.now _ network.items.now _
    (ap (λ n. n.rule.now) made ∙ ap (λ b. b.now) c.take.ensures.rule ∙ c.of_none-network.ensures.rule)
    (ap (λ n. n.bits.now) made ∙ ap (λ b. b.now) c.take.ensures.bits ∙ c.of_none-network.ensures.bits ∙ c.bit_times.ensures)
    (ap (λ n. n.items.now) made ∙ taken ∙ c.items-items.ensures)
    (settled_count _ _ network.bits.now network.items.now c.args.budget c.in_ok-count.count c.run.new.self.windows c.run.new.self.answers c.args.table.now c.write.new.table
    (g.met.R.Rule.lawful network.rule.now) network.valid (omega arith, omega arith) (omega arith) c.in_ok-count.ensures.ends c.in_ok-count.ensures.left (omega arith) c.write.ensures.rows c.write.ensures.rest)

pub invariant_of-sweeps-3 : goal.invariant_of-sweeps-3
invariant_of-sweeps-3 g c = record { fresh = fresh_none _ _ _ c.take.new.self.valid _ _ _ refl }

pub run-requires : goal.run-requires
run-requires g c =
    let few = c.take.new.self.valid.size in
    record { empty = front_empty _ _ (search rules) few; next = front_empty _ _ (search rules) few; stale = refl }
