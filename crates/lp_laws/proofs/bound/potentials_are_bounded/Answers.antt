use Rattle.lp_laws.proofs.Reduced.{reduced_potential-le}
use Rattle.lp_laws.proofs.bound.potentials_are_bounded.Goals as goal

pub returns : goal.returns
returns c = reduced_potential-le
