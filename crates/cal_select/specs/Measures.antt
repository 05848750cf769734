-- What is known of phases and of what they are made of before their limits are tested.
use Rattle.std.specs.Prelude.{◌≡◌, ℕ, ◌≤◌, ◌^◌, ◌==◌, ◌&&◌, cond, List, [], ◌∷◌, Bool, Some, Result, Ok, Err, length, map, slice_get, sum}
use Rattle.std.specs.List.{AllByRecursion, flat_map}
use Rattle.std.specs.Map.{lookup}
use Rattle.std.specs.Option.{unwrap_or}
use Rattle.cal_limits.specs.declared.TheConstants.{HIGHEST_TEMPERATURE, MOST_RATIOS}
use Rattle.cal_scan.specs.Names.{same_name}
use Rattle.cef_core.specs.declared.job.Job.{Job}
use Rattle.cef_core.specs.declared.phase.ParamAt.{ParamAt}
use Rattle.cef_core.specs.declared.phase.PhaseAt.{PhaseAt}
use Rattle.tdb_read.specs.Database.{Database}
use Rattle.cal_select.specs.declared.fault.SystemFault.{SystemFault}
use Rattle.cal_select.specs.declared.values.Made.{Made}
use Rattle.cal_select.specs.Chosen.{Word, PhaseEntry}
use Rattle.cal_select.specs.Parameters.{Entry, parameter_at, needed_of, parameters_of}
use Rattle.cal_select.specs.Selection.{phase_at, phases_at}
use Rattle.cal_select.specs.Valuations.{Valuation, AreOutcomes}
use Rattle.cal_select.specs.Causes.{Gives, parameter_causes, phase_causes, all_phase_causes}

-- so few names that their places fit 16 bits
abbrev pub IsShort : List Word → Type 0
IsShort names = length names ≤ 2 ^ 16

pub record IsMeasured (phase : PhaseAt) : Type 0 where
  pub hottest : phase.t ≤ HIGHEST_TEMPERATURE
  pub scale : phase.scale ≤ 100000
  pub ratios : sum phase.ratios ≤ MOST_RATIOS
  pub sites : AllByRecursion (λ sublattice. 1 ≤ length sublattice) phase.sites

-- the places of parameters, by the names of their phases
abbrev pub Groups : Type 0
Groups = List (Word × List ℕ)

abbrev pub places_in : Groups → Word → List ℕ
places_in groups name = unwrap_or (lookup (same_name name) groups) []

-- the parameters of the phase stand at these places
abbrev pub StandAt : Database → Word → List ℕ → Type 0
StandAt db name places = map (slice_get db.parameters) places ≡ map Some (parameters_of db name)

-- those of each phase stand at the places of its name
abbrev pub AreGrouped : Database → Groups → Type 0
AreGrouped db groups = (name : Word) → StandAt db name (places_in groups name)

-- what was made, without the functions that are known then
abbrev pub made_in : {A : Type 0} → Result (Made A) SystemFault → Result A SystemFault
made_in (Ok made) = Ok made.value
made_in (Err fault) = Err fault

-- a parameter, or the first cause that it gives
abbrev pub GivesParameter : Database → ℕ → ℕ → List (List Word) → Entry → Result ParamAt SystemFault → Type 0
GivesParameter db t scale kept e result =
    (outcome : Valuation) → AreOutcomes db.functions t outcome → Gives result (parameter_causes outcome kept e) (parameter_at outcome db scale kept e)

-- the parameters that a phase needs, or the first cause that one of them gives
abbrev pub GivesParameters : Database → ℕ → ℕ → Bool → List (List Word) → Word → Result (List ParamAt) SystemFault → Type 0
GivesParameters db t scale magnetic kept name result =
    (outcome : Valuation) → AreOutcomes db.functions t outcome →
    Gives result (flat_map (parameter_causes outcome kept) (needed_of magnetic kept (parameters_of db name)))
    (map (parameter_at outcome db scale kept) (needed_of magnetic kept (parameters_of db name)))

-- a phase, or the first cause that it gives
abbrev pub GivesPhase : Database → Job → List Word → PhaseEntry → Result PhaseAt SystemFault → Type 0
GivesPhase db job components e result =
    (outcome : Valuation) → AreOutcomes db.functions job.t outcome → Gives result (phase_causes outcome db components e) (phase_at outcome db job components e)

abbrev pub GivesPhases : Database → Job → List Word → List PhaseEntry → Result (List PhaseAt) SystemFault → Type 0
GivesPhases db job components es result =
    (outcome : Valuation) → AreOutcomes db.functions job.t outcome → Gives result (all_phase_causes outcome db components es) (phases_at outcome db job components es)

-- the powers of N behind those of the counts, by the lengths of the lists of two or more
abbrev pub degree_by_lengths : ℕ → Bool → List ℕ → ℕ
degree_by_lengths v weighted [] = 0
degree_by_lengths v weighted (n ∷ []) = cond (n == 2) v (cond (n == 3 && weighted) 1 0)
degree_by_lengths v weighted (m ∷ n ∷ more) = 0
