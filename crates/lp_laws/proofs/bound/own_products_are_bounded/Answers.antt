use Rattle.lp_laws.proofs.Own.{own-le}
use Rattle.lp_laws.proofs.bound.own_products_are_bounded.Goals as goal

pub returns : goal.returns
returns c = own-le
