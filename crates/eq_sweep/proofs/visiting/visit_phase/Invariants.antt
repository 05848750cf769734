use Rattle.cef_core.specs.Shapes.{shape}
use Rattle.cef_box.specs.Tight.{full_box}
use Rattle.eq_sweep.proofs.Stacks.{Visiting, work_left}
use Rattle.eq_sweep.proofs.visiting.visit_phase.Given as goal

abbrev pub invariant-boxes : goal.invariant-boxes
invariant-boxes g l = Visiting (g.P.PhaseModel.phase_of l.model) l.potentials l.budget l.used l.stack.items l.nodes l.splits l.spare.items l.corner l.multipliers.items

abbrev pub decreases-boxes : goal.decreases-boxes
decreases-boxes g l = work_left (g.P.PhaseModel.phase_of l.model) l.stack.items
