use Rattle.std.proofs.Common.{◌≡◌, refl, rules}
use Rattle.cal_top.proofs.texts.document_in.Goals as goal

pub returns-in-Ok : goal.returns-in-Ok
returns-in-Ok c = record { spelled = c.in-Ok.ensures.found.0; text_is = c.in-Ok.ensures.found.1 }
