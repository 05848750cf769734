use Rattle.std.proofs.Common.{rules}
use Rattle.cal_top.proofs.Pathing.{keeps}
use Rattle.cal_top.proofs.paths.path_job.Goals as goal

pub returns-clause-keeps : goal.returns-clause-keeps
returns-clause-keeps c = keeps c.args.path _ c.requires (search rules)
