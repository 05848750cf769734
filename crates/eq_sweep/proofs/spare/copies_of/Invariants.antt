use Rattle.cef_core.specs.Shapes.{shape}
use Rattle.eq_sweep.specs.Findings.{AreShaped}
use Rattle.eq_sweep.proofs.spare.copies_of.Given as goal

abbrev pub invariant-copies : goal.invariant-copies
invariant-copies l = AreShaped (shape l.range) l.boxes.items
