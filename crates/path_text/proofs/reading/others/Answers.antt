use Rattle.std.proofs.Common.{◌<◌, arith, refl, map, length, ◌-◌}
use Rattle.std.specs.Prelude.{codes}
use Rattle.std.proofs.lemmas.Result.{err_from_is_err_and}
use Rattle.cal_lines.specs.Choosing.{begins_with}
use Rattle.cal_lines.specs.Places.{place}
use Rattle.cal_lines.proofs.Parts.{until_fails, until_ends, until_end_fails}
use Rattle.cef_path.specs.declared.limit.TheConstants.{MOST_STEPS}
use Rattle.path_text.specs.Parsing.{step_at, ending_at, step_fields}
use Rattle.path_text.specs.Fields.{ending_of}
use Rattle.path_text.proofs.Others.{begun, step_on, ending_needs}
use Rattle.path_text.proofs.reading.others.Goals as goal

pub steps-init : goal.steps-init
steps-init c = begun c.args.elements c.args.first _ (place c.args.at) c.in_ok-steps.ensures c.requires

pub returns-in_err-step-clause-reads : goal.returns-in_err-step-clause-reads
returns-in_err-step-clause-reads c =
    let p = err_from_is_err_and c.from_residual-in_err-step.result c.from_residual-in_err-step.ensures.1 in
    let yes = c.goes_on.ensures.yes c.steps-test.true in
    let some : 0 < MOST_STEPS - length c.steps.steps = omega (arith, yes.0, c.len.ensures) in
    rw (p.1, p.2) (until_fails (begins_with (codes "step")) step_at (ending_at c.args.elements) c.in_err-step.field-0.0 (map step_fields c.steps.steps) (MOST_STEPS - length c.steps.steps) (place c.steps.here) _ some yes.1 c.in_err-step.ensures.reads c.steps.invariant.reads)

pub steps-preserved : goal.steps-preserved
steps-preserved c =
    let yes = c.goes_on.ensures.yes c.steps-test.true in
    let small : length c.steps.steps < MOST_STEPS = omega (arith, yes.0, c.len.ensures) in
    step_on c.args.elements c.args.first.line (length c.steps.steps) c.steps.steps c.push.new.self c.in_ok-step.step (place c.steps.here) (place c.in_ok-step.after) _ c.in_ok-push.ensures.ok small refl yes.1 c.in_ok-step.ensures.reads c.in_ok-step.ensures.line c.steps.invariant

pub returns-in_err-ending-clause-reads : goal.returns-in_err-ending-clause-reads
returns-in_err-ending-clause-reads c =
    let p = err_from_is_err_and c.from_residual-in_err-ending.result c.from_residual-in_err-ending.ensures.1 in
    rw (p.1, p.2) (until_end_fails (begins_with (codes "step")) step_at (ending_at c.args.elements) c.in_err-ending.field-0.0 (map step_fields c.steps.steps) (MOST_STEPS - length c.steps.steps) (place c.steps.here) _ (ending_needs c.args.elements)
    (λ lt. c.goes_on.ensures.no c.steps-test.false (omega (arith, lt, c.len.ensures))) c.in_err-ending.ensures c.steps.invariant.reads)

pub returns-clause-reads : goal.returns-clause-reads
returns-clause-reads c =
    until_ends (begins_with (codes "step")) step_at (ending_at c.args.elements) (map step_fields c.steps.steps) (MOST_STEPS - length c.steps.steps) (place c.steps.here) (place c.in_ok-ending.after) (ending_of c.in_ok-ending.ending) _ (ending_needs c.args.elements)
    (λ lt. c.goes_on.ensures.no c.steps-test.false (omega (arith, lt, c.len.ensures))) c.in_ok-ending.ensures c.steps.invariant.reads

pub returns-clause-stand : goal.returns-clause-stand
returns-clause-stand c = c.steps.invariant.stand
