-- What stands in the way of an equilibrium stands in the way of the step.
use Rattle.cef_core.specs.declared.system.System.{System}
use Rattle.tdb_read.specs.Database.{Database}
use Rattle.cal_scheil.specs.declared.account.Account.{Account}
use Rattle.cal_scheil.specs.declared.fault.StepFault.{StepFault}
use Rattle.cal_scheil.specs.declared.fault.StepFault.TheVariants.{System as NoSystem, Infeasible, GapNotClosed, Memory}
use Rattle.cal_scheil.specs.declared.job.PathJob.{PathJob}
use Rattle.cal_scheil.specs.Accounts.{account_in_order}
use Rattle.cal_scheil.specs.Steps.{IsSystemOf, IsUnsolved, IsStepFault}

pub unsolved_fault : (db : Database) (job : PathJob) (account : Account) (system : System) → IsSystemOf db job system → (fault : StepFault)
    → IsUnsolved system (account_in_order account system.elements).remains job fault → IsStepFault db job account fault
unsolved_fault db job account system is (NoSystem fault) why = absurd why
unsolved_fault db job account system is (Infeasible v) why = record { system = system; system_is = is; unsolved = why }
unsolved_fault db job account system is (GapNotClosed left) why = record { system = system; system_is = is; unsolved = why }
unsolved_fault db job account system is Memory why = tt
