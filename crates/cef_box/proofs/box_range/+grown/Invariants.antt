use Rattle.cef_box.proofs.box_range.+grown.Given as goal

abbrev pub decreases-grown : goal.decreases-grown
decreases-grown l = l.times
