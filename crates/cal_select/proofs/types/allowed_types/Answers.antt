use Rattle.std.proofs.Common.{arith, refl, sym, ◌∙◌}
use Rattle.cal_select.specs.Types.{applies, is_left_out}
use Rattle.cal_select.specs.Causes.{cause_if}
use Rattle.cal_select.specs.declared.fault.SystemFault.TheVariants as faults
use Rattle.cal_select.proofs.Firsts.{first-kept}
use Rattle.cal_select.proofs.types.allowed_types.Goals as goal

pub returns-then-is_left_out : goal.returns-then-is_left_out
returns-then-is_left_out c = λ apart.
    first-kept (λ text. cause_if (is_left_out text.kind) (faults.Unsupported text.line)) (applies (c.args.name.now, c.args.phase.now)) c.args.texts.now c.texts.text-index c.text-item.result _
    (omega arith) c.text-item.is (sym c.applies.ensures ∙ c.if-applies.true) c.texts.invariant
    (rw (sym c.is_left_out.ensures, c.if-is_left_out.true) refl)
