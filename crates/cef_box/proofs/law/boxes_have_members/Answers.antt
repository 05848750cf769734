use Rattle.cef_box.proofs.Tightened.{corner_member, HasSite-from_member}
use Rattle.cef_box.proofs.law.boxes_have_members.Goals as goal

pub returns : goal.returns
returns c = record { corner = corner_member; has_site = HasSite-from_member }
