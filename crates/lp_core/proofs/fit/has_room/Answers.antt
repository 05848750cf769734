use Rattle.std.proofs.Common.{ℕ, suc, ◌*◌, ◌≤◌, ◌^◌, arith, ap}
use Rattle.std.proofs.Math.Nat.{pow-suc, pow-le-pow_right}
use Rattle.lp_core.proofs.fit.has_room.Goals as goal

pub returns-then-power-clause-no : goal.returns-then-power-clause-no
returns-then-power-clause-no c room =
    let next : c.args.width ^ suc c.power._k ≤ c.args.width ^ c.args.size = pow-le-pow_right {n = c.args.width} c.requires.width c.power-test.true in
    omega (arith, c.if-power.true, next, pow-suc c.args.width c.power._k, ap (λ (v : ℕ). v * c.args.width) c.power.invariant.exact, room.wide)
