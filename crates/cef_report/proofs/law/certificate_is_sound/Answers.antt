use Rattle.cef_report.proofs.Sound.{IsWithin-from_certificate}
use Rattle.cef_report.proofs.law.certificate_is_sound.Goals as goal

pub returns : goal.returns
returns c = IsWithin-from_certificate
