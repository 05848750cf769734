use Rattle.std.proofs.Common.{subst, Ok}
use Rattle.cef_core.specs.declared.job.Job.{Job}
use Rattle.cal_select.specs.Causes.{Answers}
use Rattle.cal_check.proofs.reporting.system_for.Goals as goal

pub returns-clause-given : goal.returns-clause-given
returns-clause-given c = subst (λ (job : Job). Answers c.args.db.now job (Ok c.in-Ok.system)) c.in_ok-job.ensures c.in-Ok.ensures.given
