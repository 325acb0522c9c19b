use Rattle.std.proofs.Common.{◌≡◌, ℕ, ◌+◌, ◌<◌, sym, ◌∙◌, inl, inr, arith}
use Rattle.std.proofs.lemmas.Bool.{cases_lt}
use Rattle.bounds.proofs.Smallest.{fitting_smallest, fitting_none}
use Rattle.rules.specs.Demands.{demanded}
use Rattle.rules.proofs.demand.Demand.response.Goals as goal
use Rattle.rules.proofs.demand.Demand.response.Goals.{After-climb}

-- the room is what the period leaves beside the jitter and what follows
room : (c : After-climb) → c.args.row.now.told.jitter + (c.in_ok-room.room + c.args.after) ≡ c.args.row.now.told.period
room c = let a = c.in_ok-checked_sub.ensures in let b = c.in_ok-room.ensures in omega arith

pub returns-in_err-wait : goal.returns-in_err-wait
returns-in_err-wait c =
    let r = c.args.row.now.told in
    let step : ℕ → ℕ = demanded c.args.self.now c.args.rows.now.records.now in
    let is = room (goal.at.returns-in_err-wait c).After-climb in
    let late : (v : ℕ) → step v ≡ v → c.args.row.now.told.period < c.args.row.now.told.jitter + (v + c.args.after) =
    λ v fixed. elim (cases_lt c.in_ok-room.room v) [ inl over ↦ omega arith | inr fits ↦ absurd (c.in_err-wait.ensures v fits fixed) ] in
    c.from_residual-in_err-wait.ensures ∙ sym (fitting_none r step c.args.after late)

pub returns : goal.returns
returns c =
    let r = c.args.row.now.told in
    let step : ℕ → ℕ = demanded c.args.self.now c.args.rows.now.records.now in
    let is = room (goal.at.returns c).After-climb in
    let found = c.in_ok-wait.ensures in
    sym (fitting_smallest r step c.args.after c.in_ok-wait.wait.count found.0 (omega (arith, found.1)))
