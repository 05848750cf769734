-- What every system keeps: its limits.
use Rattle.std.specs.Prelude.{◌≡◌, ℕ, ◌+◌, ◌*◌, ◌^◌, ◌<◌, ◌≤◌, List, [], ◌∷◌, Option, Some, None, length, map, sum, max}
use Rattle.std.specs.List.{AllByRecursion, Any}
use Rattle.cal_limits.specs.declared.TheConstants.{MOST_ELEMENTS, MOST_LISTS, MOST_WIDTH, MOST_COST}
use Rattle.cal_scan.specs.Names.{AreNames}
use Rattle.cef_core.specs.declared.phase.PhaseAt.{PhaseAt}
use Rattle.cef_core.specs.declared.system.System.{System}
use Rattle.cef_core.specs.Phases.{IsFine, sigma}
use Rattle.cef_core.specs.Points.{points_in}

-- a vacancy, or one of so many components
abbrev pub IsAmong : ℕ → Option ℕ → Type 0
IsAmong components None = Unit {0}
IsAmong components (Some c) = c < components

-- some site is of a component
abbrev pub IsOccupied : Option ℕ → Type 0
IsOccupied None = ⊥
IsOccupied (Some c) = Unit {0}

abbrev pub HasComponent : List (List (Option ℕ)) → Type 0
HasComponent sites = Any (Any IsOccupied) sites

-- the greatest number of a list, and 0 of none
abbrev pub greatest : List ℕ → ℕ
greatest [] = 0
greatest (n ∷ numbers) = max n (greatest numbers)

-- P: how many lists of counts all phases have
abbrev pub all_points : List PhaseAt → ℕ
all_points phases = sum (map points_in phases)

-- W: N times the greatest sum of ratios of a phase
abbrev pub widest_of : ℕ → List PhaseAt → ℕ
widest_of lattice phases = lattice * greatest (map (λ phase. sum phase.ratios) phases)

-- S: the greatest size of a phase's energies
abbrev pub dearest_of : List PhaseAt → ℕ
dearest_of phases = greatest (map sigma phases)

-- a phase of a system
pub record IsPhaseOf (system : System) (phase : PhaseAt) : Type 0 where
  pub fine : IsFine phase
  pub same_temperature : phase.t ≡ system.t
  pub same_lattice : phase.lattice ≡ system.lattice
  pub components : AllByRecursion (AllByRecursion (IsAmong (length system.elements))) phase.sites
  pub some_component : HasComponent phase.sites

-- what every system keeps
pub record IsSystem (system : System) : Type 0 where
  pub few_elements : length system.elements ≤ MOST_ELEMENTS
  pub elements : AreNames system.elements
  pub names : AreNames (map (λ phase. phase.name) system.phases)
  pub phases : AllByRecursion (IsPhaseOf system) system.phases
  pub lists_are : system.lists ≡ all_points system.phases
  pub lists_few : system.lists ≤ MOST_LISTS
  pub widest_is : system.widest ≡ widest_of system.lattice system.phases
  pub wide : system.widest ^ length system.elements ≤ MOST_WIDTH
  pub dear : system.widest ^ length system.elements * dearest_of system.phases ≤ MOST_COST
