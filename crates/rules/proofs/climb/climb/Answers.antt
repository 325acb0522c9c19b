use Rattle.std.proofs.Common.{◌≡◌, ℕ, ◌<◌, ◌≤◌, sym, subst, arith}
use Rattle.bounds.specs.Numbers.{Rises, Under}
use Rattle.bounds.proofs.Solutions.{climbs, next_under}
use Rattle.rules.proofs.climb.climb.Given as given
use Rattle.rules.proofs.climb.climb.Goals as goal
use Rattle.rules.proofs.climb.climb.Goals.{Else-next-n}

-- what a step that goes on gives: a larger number that no solution is below
higher : (g : given.Over) (c : Else-next-n g) → (c.rise.n < c.step-next.result) × Under (g.S.Step.to c.args.s.now c.args.rows.now.records.now) c.step-next.result
higher g c =
    let to : ℕ → ℕ = g.S.Step.to c.args.s.now c.args.rows.now.records.now in
    let rises : Rises to = g.met.S.Step.rises c.args.s.now c.args.rows.now.records.now c.args.rows.now.workable in
    let is : c.step-next.result ≡ to c.rise.n = c.step-next.ensures in
    let up : c.rise.n ≤ to c.rise.n = climbs to rises c.rise.n c.rise.invariant.0 in
    (omega arith, subst (Under to) (sym is) (next_under to rises c.rise.n c.rise.invariant.0))

pub returns-then-next-n : goal.returns-then-next-n
returns-then-next-n g c = (record { stays = omega (arith, c.step-next.ensures); under = c.rise.invariant.0 }, omega arith)

pub rise-smaller-then-steps-eq-PATIENCE : goal.rise-smaller-then-steps-eq-PATIENCE
rise-smaller-then-steps-eq-PATIENCE g c = let h = higher g (goal.at.rise-smaller-then-steps-eq-PATIENCE g c).Else-next-n in omega (arith, c.max-n.ensures)

pub rise-preserved-then-steps-eq-PATIENCE : goal.rise-preserved-then-steps-eq-PATIENCE
rise-preserved-then-steps-eq-PATIENCE g c =
    let h = higher g (goal.at.rise-preserved-then-steps-eq-PATIENCE g c).Else-next-n in
    (λ k fixed. omega (arith, h.1 k fixed, c.leap.ensures k fixed, c.max-n.ensures), omega arith, omega arith)

pub returns : goal.returns
returns g c k h fixed = omega (arith, c.rise.invariant.0 k fixed)

pub rise-smaller : goal.rise-smaller
rise-smaller g c = let h = higher g (goal.at.rise-smaller g c).Else-next-n in omega arith

pub rise-preserved : goal.rise-preserved
rise-preserved g c = let h = higher g (goal.at.rise-preserved g c).Else-next-n in (h.1, omega arith, omega arith)
