use Rattle.std.proofs.Common.{◌-◌, length}
use Rattle.cal_lines.specs.Places.{place}
use Rattle.cef_path.specs.declared.limit.TheConstants.{MOST_STEPS}
use Rattle.path_text.specs.Parsing.{others_at, behind, step_fields}
use Rattle.path_text.proofs.Others.{HasRead}
use Rattle.path_text.proofs.reading.others.Given as goal

abbrev pub invariant-steps : goal.invariant-steps
invariant-steps l = HasRead l.elements l.fn.first.line l.steps (place l.here) (behind (step_fields l.fn.first) (others_at l.elements (place l.fn.at)))

abbrev pub decreases-steps : goal.decreases-steps
decreases-steps l = MOST_STEPS - length l.steps
