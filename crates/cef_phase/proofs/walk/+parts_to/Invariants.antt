use Rattle.cef_phase.proofs.walk.+parts_to.Given as goal

abbrev pub decreases-parts_to : goal.decreases-parts_to
decreases-parts_to l = l.count
