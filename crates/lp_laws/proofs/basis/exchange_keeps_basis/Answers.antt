use Rattle.lp_laws.proofs.Exchange.{IsBasis-from_exchange}
use Rattle.lp_laws.proofs.basis.exchange_keeps_basis.Goals as goal

pub returns : goal.returns
returns c = IsBasis-from_exchange
