use Rattle.std.proofs.Common.{ℕ, ◌+◌, List, sym, subst}
use Rattle.cal_lines.specs.Places.{place}
use Rattle.cef_path.specs.declared.step.StepText.{StepText}
use Rattle.cef_path.specs.Spelled.{StandAt}
use Rattle.path_text.specs.Fields.{head_of}
use Rattle.path_text.proofs.Others.{head_next}
use Rattle.path_text.proofs.reading.path.Goals as goal

pub returns-clause-stand : goal.returns-clause-stand
returns-clause-stand c =
    let next = head_next (head_of c.in_ok-head.head) (place c.args.at) (place c.in_ok-head.after) c.in_ok-head.ensures in
    subst (λ (l : List StepText). StandAt (c.args.at.number + 5) l) (sym c.path_of.ensures.steps)
    (subst (λ (k : ℕ). StandAt k c.in_ok-steps.steps.steps) next c.in_ok-steps.ensures.stand)
