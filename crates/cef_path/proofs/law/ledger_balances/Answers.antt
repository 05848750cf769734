use Rattle.cef_path.proofs.Balance.{balanced}
use Rattle.cef_path.proofs.law.ledger_balances.Goals as goal

pub returns : goal.returns
returns c = balanced
