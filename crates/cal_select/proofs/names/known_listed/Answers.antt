use Rattle.std.proofs.Common.{arith, refl, sym}
use Rattle.cal_select.specs.Causes.{cause_if, is_unknown_phase}
use Rattle.cal_select.specs.declared.fault.SystemFault.TheVariants as faults
use Rattle.cal_select.proofs.Firsts.{first-at}
use Rattle.cal_select.proofs.names.known_listed.Goals as goal

pub returns-then-is_unknown_phase : goal.returns-then-is_unknown_phase
returns-then-is_unknown_phase c = λ apart.
    first-at (λ name. cause_if (is_unknown_phase c.args.db.now name) (faults.UnknownPhase name)) c.args.listed.now c.listed.name-index c.name-item.result _
    (omega arith) c.name-item.is c.listed.invariant
    (rw (sym c.is_unknown_phase.ensures, c.if-is_unknown_phase.true, c.in_ok-unknown.ensures) refl)
