-- The report of what was found.
use Rattle.std.specs.Prelude.{◌≡◌, List, map, ℤ}
use Rattle.cef_core.specs.declared.system.System.{System}
use Rattle.cef_report.specs.declared.report.Report.{Report}
use Rattle.eq_solve.specs.declared.found.Found.{Found}

pub record Reports (system : System) (asked : List ℤ) (found : Found) (report : Report) : Type 0 where
  pub temperature : report.t ≡ system.t
  pub lattice : report.lattice ≡ system.lattice
  pub elements : report.elements ≡ system.elements
  pub phases : report.phases ≡ map (λ phase. phase.name) system.phases
  pub asked_are : report.asked ≡ asked
  pub entries : report.entries ≡ found.entries
  pub totals : report.totals ≡ found.totals
  pub energy : report.energy ≡ found.energy
  pub tolerance : report.tolerance ≡ found.tolerance
  pub gap : report.gap ≡ found.gap
  pub potentials : report.potentials ≡ found.potentials
  pub trees : report.trees ≡ found.trees
