use Rattle.std.proofs.Common.{rules, arith, ◌≡◌, ◌*◌, ◌≤◌}
use Rattle.cal_limits.specs.declared.TheConstants.{MOST_ASKED}
use Rattle.cal_top.specs.Equilibria as spec
use Rattle.cal_top.proofs.Asking.{total_small}
use Rattle.cal_top.proofs.asked.total_of.Goals as goal

pub overflow_mul-amount : goal.overflow_mul-amount
overflow_mul-amount c =
    let amount : c.amount_beside-amount.result ≡ spec.amount_beside c.args.request.now.job.elements c.args.request.now.amounts c.args.name.now = search rules in
    let lattice : c.from.result ≡ c.args.request.now.job.lattice = search rules in
    let most : c.amount_beside-amount.result * c.from.result ≤ MOST_ASKED = rw (amount, lattice) (total_small c.args.request.now c.args.name.now c.requires) in
    omega (arith, most)
