use Rattle.std.proofs.Common.{◌≡◌, ◌+◌, ◌-◌, ◌*◌, ◌/◌, ◌≤◌, mul-le-mul, div-le_self, arith}
use Rattle.rules.proofs.demand.sums.asked.Goals as goal

-- the quotient is at most its dividend
pub returns : goal.returns
returns c =
    let n = c.args.n.count + c.args.row.now.told.jitter + c.args.more + (c.args.row.now.told.period - 1) in
    let low : n / c.args.row.now.told.period ≤ 40000000 = omega (arith, div-le_self n c.args.row.now.told.period) in
    let high : c.args.row.now.told.greatest ≤ 20000000 = omega arith in
    let most = mul-le-mul low high in
    let value : c.from-2.result * c.from-3.result ≡ n / c.args.row.now.told.period * c.args.row.now.told.greatest = cc in
    record { value = cc; bound = omega arith }
