use Rattle.cef_box.proofs.Kept.{phase_member}
use Rattle.cef_box.proofs.law.members_are_lists.Goals as goal

pub returns : goal.returns
returns c = phase_member
