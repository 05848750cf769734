use Rattle.std.proofs.Common.{ℕ, ◌+◌, length, sym, ap, ◌∙◌, subst}
use Rattle.cal_lines.specs.Places.{place}
use Rattle.cef_path.specs.Texts.{lines_of_step}
use Rattle.cef_path.specs.Spelled.{StandAt}
use Rattle.path_text.proofs.Others.{step_next}
use Rattle.path_text.proofs.reading.steps.Goals as goal

pub others_of-requires : goal.others_of-requires
others_of-requires c =
    step_next c.in_ok-first.first (place c.args.at) (place c.in_ok-first.after) c.in_ok-first.ensures.reads
    ∙ ap (λ (k : ℕ). k + length (lines_of_step c.in_ok-first.first)) (sym c.in_ok-first.ensures.line)

pub returns-clause-stand : goal.returns-clause-stand
returns-clause-stand c = subst (λ (k : ℕ). StandAt k c.in_ok-steps.steps.steps) c.in_ok-first.ensures.line c.in_ok-steps.ensures.stand
