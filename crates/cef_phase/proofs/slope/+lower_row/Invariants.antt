use Rattle.std.proofs.Common.{length}
use Rattle.cef_phase.proofs.slope.+lower_row.Given as goal

-- the sites that are left
abbrev pub decreases-lower_row : goal.decreases-lower_row
decreases-lower_row l = length l.sites.now
