-- What an equilibrium says, in one relation.
use Rattle.std.specs.Prelude.{ℕ, List, ℤ}
use Rattle.cef_core.specs.declared.system.System.{System}
use Rattle.cef_report.specs.declared.report.Report.{Report}
use Rattle.cef_report.specs.Holding.{Holds}
use Rattle.cef_report.specs.Certificates.{IsCertified}
use Rattle.cef_report.specs.Feasibility.{IsFeasible}
use Rattle.cef_report.specs.Spelled.{IsSpelled}
use Rattle.eq_sweep.specs.declared.swept.Swept.TheVariants.{Closed}
use Rattle.eq_sweep.specs.Sweeps.{IsSweep}
use Rattle.eq_solve.specs.Answers.{IsNear}

-- The report holds for the system and the asked totals, which are feasible, with its certificate for the asked gap. Its trees are those
-- of the sweep under its potentials with the asked budget, and the report is within the limits of texts.
pub record IsEquilibrium (system : System) (asked : List ℤ) (asked_gap budget : ℕ) (report : Report) : Type 0 where
  pub holds : Holds system asked report
  pub certified : IsCertified system asked_gap report
  pub near : IsNear system report
  pub feasible : IsFeasible system asked
  pub trees : IsSweep system.phases report.potentials budget (Closed report.trees)
  pub spelled : IsSpelled report
