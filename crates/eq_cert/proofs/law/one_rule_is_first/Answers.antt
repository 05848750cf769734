use Rattle.eq_cert.proofs.Order.{none_first, one_first}
use Rattle.eq_cert.proofs.law.one_rule_is_first.Goals as goal

pub returns-clause-one : goal.returns-clause-one
returns-clause-one c = one_first

pub returns-clause-none : goal.returns-clause-none
returns-clause-none c = none_first
