use Rattle.cef_box.proofs.Kept.{phase_fits}
use Rattle.cef_box.proofs.law.a_tight_box_fits.Goals as goal

pub returns : goal.returns
returns c = phase_fits
