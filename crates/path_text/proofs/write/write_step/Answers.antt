use Rattle.std.proofs.Common.{◌∙◌}
use Rattle.path_text.proofs.Joins.{step_joined}
use Rattle.path_text.proofs.write.write_step.Goals as goal

pub returns : goal.returns
returns c =
    step_joined c.args.number _ c.args.report.now c.args.left.now _ _ _ _ _
    c.new-out.ensures.items c.from.ensures c.in_ok-put_count_line.ensures (c.as_slice.ensures.value ∙ c.in_ok-text.ensures) c.in_ok-extend_from_slice.ensures.items c.in_ok-put_numbers_line.ensures
