use Rattle.std.proofs.Common.{◌-◌, length}
use Rattle.cef_phase.proofs.mixing.+mixing_from.Given as goal

abbrev pub decreases-mixing_from : goal.decreases-mixing_from
decreases-mixing_from l = length l.site.now - l.place
