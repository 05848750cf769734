use Rattle.std.proofs.Common.{length}
use Rattle.cef_minor.proofs.site_list.+place_lists.Given as goal

-- the sublattices that are left
abbrev pub decreases-place_lists : goal.decreases-place_lists
decreases-place_lists l = length l.sites.now
