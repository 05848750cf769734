use Rattle.std.proofs.Common.{length}
use Rattle.cef_minor.proofs.site_list.+form_behind.Given as goal

-- the sublattices that are left
abbrev pub decreases-form_behind : goal.decreases-form_behind
decreases-form_behind l = length l.sites.now
