use Rattle.cef_box.proofs.Singles.{widest_wide}
use Rattle.cef_box.proofs.law.the_widest_range_is_wide.Goals as goal

pub returns : goal.returns
returns c = widest_wide
