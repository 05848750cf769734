-- What a system may be asked for.
use Rattle.std.specs.Prelude.{◌≡◌, ℕ, ◌<◌, ◌≤◌, List, Option, Some, None, length, true}
use Rattle.std.specs.List.{AllByRecursion}
use Rattle.cal_limits.specs.declared.TheConstants.{LOWEST_TEMPERATURE, HIGHEST_TEMPERATURE, MOST_ELEMENTS}
use Rattle.cal_scan.specs.Names.{AreNamesWithin}
use Rattle.cal_scan.specs.Words.{is_name}
use Rattle.cef_core.specs.declared.job.Job.{Job}
use Rattle.cef_core.specs.Lattices.{is_lattice}

-- the phases that are listed: one name or more, where there is a list; a name may stand twice
abbrev pub AreListed : Option (List (List ℕ)) → Type 0
AreListed None = Unit {0}
AreListed (Some names) = (1 ≤ length names) × AllByRecursion (λ name. is_name name ≡ true) names

pub record IsJob (job : Job) : Type 0 where
  pub coldest : LOWEST_TEMPERATURE ≤ job.t
  pub hottest : job.t ≤ HIGHEST_TEMPERATURE
  pub lattice : is_lattice job.lattice ≡ true
  pub elements : AreNamesWithin (Some MOST_ELEMENTS) job.elements
  pub phases : AreListed job.phases
