use Rattle.std.proofs.Common.{length}
use Rattle.cef_phase.proofs.slope.+lower_rows.Given as goal

-- the sublattices that are left
abbrev pub decreases-lower_rows : goal.decreases-lower_rows
decreases-lower_rows l = length l.sites.now
