use Rattle.cal_scheil.proofs.Walked.{begins, goes_on, selects, ends}
use Rattle.cal_scheil.proofs.law.a_walk_is_a_path.Goals as goal

pub returns-clause-begins : goal.returns-clause-begins
returns-clause-begins c = begins

pub returns-clause-goes_on : goal.returns-clause-goes_on
returns-clause-goes_on c = goes_on c.some_outcome.ensures

pub returns-clause-selects : goal.returns-clause-selects
returns-clause-selects c = selects c.some_outcome.ensures

pub returns-clause-ends : goal.returns-clause-ends
returns-clause-ends c = ends
