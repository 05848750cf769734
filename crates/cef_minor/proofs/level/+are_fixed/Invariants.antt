use Rattle.std.proofs.Common.{length}
use Rattle.cef_minor.proofs.level.+are_fixed.Given as goal

-- the sites that are left
abbrev pub decreases-are_fixed : goal.decreases-are_fixed
decreases-are_fixed l = length l.sites.now
