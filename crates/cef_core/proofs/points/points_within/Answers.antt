use Rattle.std.proofs.Common.{◌≡◌, ◌≤◌, ◌*◌, ◌^◌, Some, None, length, ◌∙◌, arith, rules}
use Rattle.std.proofs.lemmas.Nat.{mul-le}
use Rattle.cef_core.specs.Capped.{within}
use Rattle.cef_core.specs.Points.{number_of}
use Rattle.cef_core.proofs.Product.{points-on, points-none, points-at}
use Rattle.cef_core.proofs.points.points_within.Goals as goal

pub sublattices-preserved : goal.sublattices-preserved
sublattices-preserved c =
    let next : Some c.in_ok-points.points ≡ within (2 ^ 40) (c.sublattices.points * number_of (length c.sublattice-item.result) c.args.lattice) = rw c.len.ensures at c.in_ok-points.ensures in
    let on = points-on c.args.lattice c.args.sites.now c.sublattices.sublattice-index c.sublattices.points c.in_ok-points.points c.sublattice-item.result (omega arith) c.sublattice-item.is c.sublattices.invariant.counted next in
    record {
      counted = on.0;
      some = points-at c.args.lattice c.args.sites.now c.sublattices.sublattice-index c.in_ok-points.points c.requires on.0;
      small = on.1;
    }

pub returns-in_err-points : goal.returns-in_err-points
returns-in_err-points c =
    let none : None ≡ within (2 ^ 40) (c.sublattices.points * number_of (length c.sublattice-item.result) c.args.lattice) = rw c.len.ensures at c.in_err-points.ensures in
    c.from_residual.ensures ∙ points-none c.args.lattice c.args.sites.now c.sublattices.sublattice-index c.sublattices.points c.sublattice-item.result c.requires (omega arith) c.sublattice-item.is c.sublattices.invariant.counted none
