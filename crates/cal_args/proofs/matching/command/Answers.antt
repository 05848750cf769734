use Rattle.std.proofs.Common.{◌∙◌, ap₂, arith}
use Rattle.clap.specs.Words.{with_rule}
use Rattle.cal_args.proofs.Building.{one_more}
use Rattle.cal_args.proofs.matching.command.Goals as goal

pub options-preserved : goal.options-preserved
options-preserved c =
    c.in_ok-command.ensures.shape c.argument.ensures.own ∙ ap₂ with_rule c.options.invariant c.argument.ensures.rule
    ∙ one_more c.args.name.now c.args.options.now c.options.option-index _ (omega arith)
