use Rattle.std.proofs.Common.{length}
use Rattle.cef_minor.proofs.site_list.+place_list.Given as goal

-- the places that are left
abbrev pub decreases-place_list : goal.decreases-place_list
decreases-place_list l = length l.list.now
