use Rattle.std.proofs.Common.{arith, rules}
use Rattle.cef_core.specs.declared.phase.PhaseAt.{PhaseAt}
use Rattle.cal_select.specs.declared.fault.SystemFault.TheVariants as faults
use Rattle.cal_select.specs.Causes.{cause_if, is_too_energetic}
use Rattle.cal_select.proofs.Firsts.{told-at}
use Rattle.cal_select.proofs.limits.allowed_energies.Goals as goal

pub returns-in_err-allowed_energy : goal.returns-in_err-allowed_energy
returns-in_err-allowed_energy c =
    let told = told-at (λ (phase : PhaseAt). cause_if (is_too_energetic phase) (faults.EnergyTooLarge phase.name)) c.args.phases.now c.phases.phase-index c.phase-item.result c.in_err-allowed_energy.field-0.0
    (omega arith) c.phase-item.is c.phases.invariant c.in_err-allowed_energy.ensures in
    search rules
