use Rattle.std.proofs.Common.{arith, refl, sym}
use Rattle.cal_select.specs.Causes.{cause_if, is_unknown_element}
use Rattle.cal_select.specs.declared.fault.SystemFault.TheVariants as faults
use Rattle.cal_select.proofs.Firsts.{first-at}
use Rattle.cal_select.proofs.names.known_elements.Goals as goal

pub returns-then-is_unknown_element : goal.returns-then-is_unknown_element
returns-then-is_unknown_element c = λ apart.
    first-at (λ name. cause_if (is_unknown_element c.args.db.now name) (faults.UnknownElement name)) c.args.asked.now c.asked.name-index c.name-item.result _
    (omega arith) c.name-item.is c.asked.invariant
    (rw (sym c.is_unknown_element.ensures, c.if-is_unknown_element.true, c.in_ok-unknown.ensures) refl)
