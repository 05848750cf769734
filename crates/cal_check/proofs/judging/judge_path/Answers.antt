use Rattle.std.proofs.Common.{◌≡◌}
use Rattle.cal_check.proofs.Concluding.{no_liquid}
use Rattle.cal_check.proofs.judging.judge_path.Goals as goal

pub returns-then-not-has_liquid-clause-fault : goal.returns-then-not-has_liquid-clause-fault
returns-then-not-has_liquid-clause-fault c = no_liquid c.args.db.now c.args.path.now c.requires.spelled c.if-not-has_liquid.ensures.no
