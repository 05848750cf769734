-- Why there is no system: all causes, in their order. The first one is answered.
use Rattle.std.specs.Prelude.{◌≡◌, ◌≢◌, ℕ, ◌*◌, ◌^◌, nat_lt, List, [], ◌∷◌, ◌++◌, length, sum, codes, Bool, true, not, ◌||◌, Option, Some, None, Result, Ok, Err, if◌then◌else◌, ◌==◌, is_some}
use Rattle.std.specs.List.{list_any, flat_map}
use Rattle.std.specs.Map.{lookup}
use Rattle.cal_limits.specs.declared.TheConstants.{MOST_RATIOS, MOST_ENERGY, MOST_CURIE, MOST_MOMENT, MOST_LISTS, MOST_WIDTH, MOST_COST, MOST_POWER}
use Rattle.cal_scan.specs.Names.{same_name}
use Rattle.cal_dec.specs.declared.dec.Dec.{Dec}
use Rattle.cef_core.specs.declared.job.Job.{Job}
use Rattle.cef_core.specs.declared.phase.ParamAt.{ParamAt}
use Rattle.cef_core.specs.declared.phase.PhaseAt.{PhaseAt}
use Rattle.cef_core.specs.declared.system.System.{System}
use Rattle.cef_core.specs.Energies.{is_curie, is_moment}
use Rattle.cef_core.specs.Phases.{sigma, magnitudes, degree}
use Rattle.cef_core.specs.Systems.{dearest_of}
use Rattle.temp_fun.specs.declared.fault.EvalFault.{EvalFault}
use Rattle.temp_fun.specs.declared.fault.EvalFault.TheVariants as stops
use Rattle.tdb_read.specs.declared.phase.PhaseText.{PhaseText}
use Rattle.tdb_read.specs.declared.type_definition.TypeText.{TypeText}
use Rattle.tdb_read.specs.Database.{Database}
use Rattle.cal_select.specs.declared.fault.SystemFault.{SystemFault}
use Rattle.cal_select.specs.declared.fault.SystemFault.TheVariants as faults
use Rattle.cal_select.specs.Valuations.{Outcome, Valuation, AreOutcomes}
use Rattle.cal_select.specs.Chosen.{Word, PhaseEntry, is_vacancy, components_of, selected}
use Rattle.cal_select.specs.Wholes.{decimals_of, whole_ratios}
use Rattle.cal_select.specs.Types.{applying, is_left_out}
use Rattle.cal_select.specs.Parameters.{Entry, is_unsupported, parameters_of, needed_of}
use Rattle.cal_select.specs.Selection.{is_magnetic, kept_in, system_of}

-- the first of a list
abbrev pub first : {A : Type 0} → List A → Option A
first [] = None
first (x ∷ xs) = Some x

-- a cause where a test holds
abbrev pub cause_if : Bool → SystemFault → List SystemFault
cause_if test fault = if test then fault ∷ [] else []

-- ---- names

abbrev pub is_gas : Word → Bool
is_gas name = same_name name (codes "/-")

abbrev pub is_unknown_element : Database → Word → Bool
is_unknown_element db name = is_vacancy name || (is_gas name || not (is_some (lookup (same_name name) db.elements)))

abbrev pub unknown_elements : Database → List Word → List SystemFault
unknown_elements db asked = flat_map (λ name. cause_if (is_unknown_element db name) (faults.UnknownElement name)) asked

abbrev pub is_unknown_phase : Database → Word → Bool
is_unknown_phase db name = not (is_some (lookup (same_name name) db.phases))

abbrev pub unknown_phases : Database → Option (List Word) → List SystemFault
unknown_phases db None = []
unknown_phases db (Some listed) = flat_map (λ name. cause_if (is_unknown_phase db name) (faults.UnknownPhase name)) listed

-- ---- the choice of phases

abbrev pub no_phase : List PhaseEntry → List SystemFault
no_phase chosen = cause_if (length chosen == 0) faults.NoPhase

abbrev pub is_ionic : PhaseText → Bool
is_ionic text = same_name text.suffix (codes "Y")

abbrev pub ionic : List PhaseEntry → List SystemFault
ionic chosen = flat_map (λ e. cause_if (is_ionic e.1) (faults.Ionic e.1.line)) chosen

abbrev pub is_wide_at : List Dec → Option ℕ → Bool
is_wide_at ratios None = true
is_wide_at ratios (Some d) = nat_lt MOST_RATIOS (sum (whole_ratios d ratios))

-- no number of decimals up to 5 is enough, or the whole ratios add to more than 100000
unfoldable pub is_too_wide : List Dec → Bool
is_too_wide ratios = is_wide_at ratios (decimals_of ratios)

abbrev pub too_wide : List PhaseEntry → List SystemFault
too_wide chosen = flat_map (λ e. cause_if (is_too_wide e.1.ratios) (faults.RatiosTooWide e.1.line)) chosen

-- ---- definitions and parameters of a phase

abbrev pub type_causes : List TypeText → List SystemFault
type_causes texts = flat_map (λ text. cause_if (is_left_out text.kind) (faults.Unsupported text.line)) texts

abbrev pub refusal_of : EvalFault → SystemFault
refusal_of (stops.Missing line) = faults.Missing line
refusal_of (stops.Cycle line) = faults.Cycle line
refusal_of (stops.Unsupported line) = faults.Unsupported line
refusal_of (stops.TooLarge line) = faults.TooLarge line
refusal_of stops.Memory = faults.Memory

abbrev pub value_causes : Outcome → List SystemFault
value_causes (Ok v) = []
value_causes (Err fault) = refusal_of fault ∷ []

-- of a parameter: first its form, then its value
abbrev pub parameter_causes : Valuation → List (List Word) → Entry → List SystemFault
parameter_causes outcome kept e =
    cause_if (is_unsupported kept e) (faults.Unsupported e.1.ranged.line) ++ value_causes (outcome e.1.ranged)

-- A phase's applying type definitions and then its needed parameters, both in the order of the database.
abbrev pub phase_causes : Valuation → Database → List Word → PhaseEntry → List SystemFault
phase_causes outcome db components e =
    type_causes (applying db.types e)
    ++ flat_map (parameter_causes outcome (kept_in components e))
    (needed_of (is_magnetic db e) (kept_in components e) (parameters_of db e.0))

abbrev pub all_phase_causes : Valuation → Database → List Word → List PhaseEntry → List SystemFault
all_phase_causes outcome db components chosen = flat_map (phase_causes outcome db components) chosen

-- ---- limits

-- the size of its energies is above 2^55, or its Curie temperatures add to more than 10^10 µK, or its moments to more than
-- 5*10^8 millionths
abbrev pub is_too_energetic : PhaseAt → Bool
is_too_energetic phase =
    nat_lt MOST_ENERGY (sigma phase)
    || (nat_lt MOST_CURIE (magnitudes is_curie phase.parameters)
    || nat_lt MOST_MOMENT (magnitudes is_moment phase.parameters))

abbrev pub energy_causes : List PhaseAt → List SystemFault
energy_causes phases = flat_map (λ phase. cause_if (is_too_energetic phase) (faults.EnergyTooLarge phase.name)) phases

-- P is above 2^40
abbrev pub lattice_causes : System → List SystemFault
lattice_causes system = cause_if (nat_lt MOST_LISTS system.lists) faults.LatticeTooLarge

-- W^C
abbrev pub width_of : System → ℕ
width_of system = system.widest ^ length system.elements

-- N^degree is above 2^70
abbrev pub is_too_high : ParamAt → ℕ → Bool
is_too_high p lattice = nat_lt MOST_POWER (lattice ^ degree p)

abbrev pub has_too_high : ℕ → PhaseAt → Bool
has_too_high lattice phase = list_any (λ p. is_too_high p lattice) phase.parameters

-- W^C is above 2^62, W^C * S above 2^94, or N^degree above 2^70 for some parameter
abbrev pub is_too_fine : System → Bool
is_too_fine system =
    nat_lt MOST_WIDTH (width_of system)
    || (nat_lt MOST_COST (width_of system * dearest_of system.phases)
    || list_any (has_too_high system.lattice) system.phases)

abbrev pub fineness_causes : System → List SystemFault
fineness_causes system = cause_if (is_too_fine system) faults.TooFine

abbrev pub limit_causes : System → List SystemFault
limit_causes system = energy_causes system.phases ++ (lattice_causes system ++ fineness_causes system)

-- ---- all

abbrev pub name_causes : Database → Job → List SystemFault
name_causes db job = unknown_elements db job.elements ++ unknown_phases db job.phases

abbrev pub choice_causes : List PhaseEntry → List SystemFault
choice_causes chosen = no_phase chosen ++ (ionic chosen ++ too_wide chosen)

-- All causes in their order: names, the choice of phases, their definitions and parameters, limits.
abbrev pub causes : Valuation → Database → Job → List SystemFault
causes outcome db job =
    name_causes db job
    ++ (choice_causes (selected db job)
    ++ (all_phase_causes outcome db (components_of db job) (selected db job)
    ++ limit_causes (system_of outcome db job)))

-- ---- answers

-- No cause stands where there is no refusal. A refusal other than want of memory is the first cause.
abbrev pub Tells : {A : Type 0} → Result A SystemFault → List SystemFault → Type 0
Tells (Ok x) causes = causes ≡ []
Tells (Err fault) causes = fault ≢ faults.Memory → first causes ≡ Some fault

-- and what is answered is this
abbrev pub Gives : {A : Type 0} → Result A SystemFault → List SystemFault → A → Type 0
Gives (Ok x) causes value = (causes ≡ []) × (x ≡ value)
Gives (Err fault) causes value = fault ≢ faults.Memory → first causes ≡ Some fault

-- The system where no cause stands, and otherwise the first cause, by whatever gives each ranged text its outcome.
abbrev pub Answers : Database → Job → Result System SystemFault → Type 0
Answers db job result =
    (outcome : Valuation) → AreOutcomes db.functions job.t outcome → Gives result (causes outcome db job) (system_of outcome db job)
