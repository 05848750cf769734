use Rattle.cef_box.proofs.Singles.{single_corner}
use Rattle.cef_box.proofs.law.a_single_box_has_its_corner.Goals as goal

pub returns : goal.returns
returns c = single_corner
