use Rattle.std.proofs.Common.{◌≡◌, subst}
use Rattle.cal_top.specs.declared.texts.Opened.{Opened}
use Rattle.cal_top.specs.Opening.{IsOpened}
use Rattle.cal_top.proofs.paths.begun.Goals as goal

pub returns-in-Refused : goal.returns-in-Refused
returns-in-Refused c = subst (λ (o : Opened). IsOpened c.args.bytes.now o) c.in-Refused.is c.in_ok-opened.ensures
