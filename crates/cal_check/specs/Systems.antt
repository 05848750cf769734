-- The system by which a report is judged: the one that the database gives for the heads of the report.
use Rattle.std.specs.Prelude.{◌≢◌, ℕ, Some, Ok, Err, List, slice_get, ◌≡◌}
use Rattle.cef_core.specs.declared.job.Job.{Job}
use Rattle.cef_core.specs.declared.system.System.{System}
use Rattle.cef_report.specs.declared.report.Report.{Report}
use Rattle.cef_path.specs.declared.step.StepText.{StepText}
use Rattle.tdb_read.specs.Database.{Database}
use Rattle.cal_select.specs.declared.fault.SystemFault.{SystemFault}
use Rattle.cal_select.specs.declared.fault.SystemFault.TheVariants as faults
use Rattle.cal_select.specs.Causes.{Answers}

-- what the heads of a report ask for: its temperature, lattice and elements, with its phases listed
abbrev pub job_of : Report → Job
job_of report = record { t = report.t; lattice = report.lattice; elements = report.elements; phases = Some report.phases }

-- the database gives this system for the report
abbrev pub IsSystemFor : Database → Report → System → Type 0
IsSystemFor db report system = Answers db (job_of report) (Ok system)

-- it gives some system
abbrev pub HasSystem : Database → Report → Type 0
HasSystem db report = (system : System) × IsSystemFor db report system

-- it gives none, and this is the first cause
pub record IsRefusedFor (db : Database) (report : Report) (fault : SystemFault) : Type 0 where
  pub no_want : fault ≢ faults.Memory
  pub first : Answers db (job_of report) (Err fault)

-- at the temperature of each step, the system of the step's report
abbrev pub AreSystemsFor : Database → (ℕ → System) → List StepText → Type 0
AreSystemsFor db systems steps =
    (i : ℕ) (step : StepText) → slice_get steps i ≡ Some step → IsSystemFor db step.report (systems step.report.t)
