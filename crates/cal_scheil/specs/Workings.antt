-- Lists that are made number by number, and what the parts of a step ask of one another.
use Rattle.std.specs.Prelude.{◌≡◌, ℕ, ◌≤◌, ◌<◌, List, length, ℤ, pos, ◌+ℤ◌, ◌-ℤ◌, ◌≤ℤ◌}
use Rattle.cal_limits.specs.declared.TheConstants.{MOST_ASKED, LEAST_GAP, MOST_GAP}
use Rattle.cal_math.specs.Vectors.{at}
use Rattle.cal_scan.specs.Lines.{Word}
use Rattle.cef_core.specs.declared.system.System.{System}
use Rattle.cef_core.specs.Jobs.{IsJob}
use Rattle.cef_core.specs.Systems.{IsSystem}
use Rattle.cef_path.specs.Finishing.{IsNone}
use Rattle.cef_path.specs.Ledgers.{IsLeft}
use Rattle.cef_report.specs.declared.report.Report.{Report}
use Rattle.eq_solve.specs.Equilibria.{IsEquilibrium}
use Rattle.cef_report.specs.declared.entry.Entry.{Entry}
use Rattle.cef_report.specs.Assemblages.{IsAssemblage, total}
use Rattle.tdb_expr.specs.declared.ranged.Ranged.{Ranged}
use Rattle.tdb_expr.specs.Forms.{IsRanged}
use Rattle.temp_fun.specs.Functions.{Functions, AreFunctions}
use Rattle.temp_fun.specs.Outcomes.{SomeOutcome}
use Rattle.cal_select.specs.Chosen.{is_in}
use Rattle.cal_scheil.specs.declared.account.Account.{Account}
use Rattle.cal_scheil.specs.declared.job.PathJob.{PathJob}
use Rattle.cal_scheil.specs.Accounts.{account_in_order, IsAccount}
use Rattle.cal_scheil.specs.Steps.{Moves}

-- no number is below 0 or above the number of the other list at its place
abbrev pub AreWithin : List ℤ → List ℤ → Type 0
AreWithin numbers most = (c : ℕ) → (pos 0 ≤ℤ at numbers c) × (at numbers c ≤ℤ at most c)

-- each number with the difference of two others added to it
pub record AreMoved (sums more less moved : List ℤ) : Type 0 where
  pub same_length : length moved ≡ length sums
  pub numbers_are : (c : ℕ) → at moved c ≡ at sums c +ℤ (at more c -ℤ at less c)

-- the account after an equilibrium with these totals, which leaves so much of the liquid
pub record IsMoved (before : Account) (totals left : List ℤ) (after : Account) : Type 0 where
  pub same_names : after.names ≡ before.names
  pub same_asked : after.asked ≡ before.asked
  pub solids : AreMoved before.solids totals left after.solids
  pub remains : after.remains ≡ left
  pub lost : AreMoved before.lost before.remains totals after.lost

-- entries of the system whose total of the component is within what may be asked
pub record CanTotal (system : System) (phases : List Word) (entries : List Entry) (c : ℕ) : Type 0 where
  pub assemblage : IsAssemblage system entries
  pub phase_each : length phases ≡ length system.phases
  pub most : total system entries c ≤ℤ pos MOST_ASKED

-- a job and an account of which a step can be made
pub record CanStep (job : PathJob) (account : Account) : Type 0 where
  pub job_is : IsJob job.job
  pub gap_low : LEAST_GAP ≤ job.gap
  pub gap_high : job.gap ≤ MOST_GAP
  pub same_elements : (name : Word) → is_in account.names name ≡ is_in job.job.elements name
  pub account_is : IsAccount account
  pub some : ¬ IsNone account.remains

-- what holds of the account behind a step, and of what the step leaves
pub record IsNext (job : PathJob) (after : Account) (left : List ℤ) : Type 0 where
  pub left_each : length left ≡ length after.names
  pub left_high : (c : ℕ) → at left c ≤ℤ pos MOST_ASKED
  pub account_is : IsAccount after
  pub same_elements : (name : Word) → is_in after.names name ≡ is_in job.job.elements name

-- what the equilibrium of a system for what remains makes of an account
pub record MakesOf (system : System) (job : PathJob) (before : Account) (report : Report) (left : List ℤ) (after : Account) : Type 0 where
  pub answers : IsEquilibrium system (account_in_order before system.elements).remains job.gap job.budget report
  pub left_is : IsLeft system job.liquid report left
  pub moves : Moves system job.liquid report left (account_in_order before system.elements) after

-- each ranged text of functions that a database keeps has an outcome at each temperature
abbrev pub EachHasOutcome : Type 0
EachHasOutcome = (f : Functions) (t : ℕ) (ranged : Ranged) → AreFunctions f → IsRanged ranged → SomeOutcome f t ranged
