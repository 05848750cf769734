use Rattle.lp_laws.proofs.Reduced.{reduced_denominator-le}
use Rattle.lp_laws.proofs.bound.denominators_are_bounded.Goals as goal

pub returns : goal.returns
returns c = reduced_denominator-le
