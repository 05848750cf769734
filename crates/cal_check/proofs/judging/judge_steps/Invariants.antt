use Rattle.cal_check.specs.Workings.{AreRightBefore}
use Rattle.cal_check.proofs.judging.judge_steps.Given as goal

abbrev pub invariant-steps : goal.invariant-steps
invariant-steps l = AreRightBefore l.db l.path l.i
