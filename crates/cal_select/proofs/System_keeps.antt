-- Where no cause stands, the system keeps its limits.
use Rattle.std.proofs.Common.{◌≡◌, ℕ, ◌*◌, ◌≤◌, ◌<◌, List, [], ◌∷◌, ◌++◌, length, map, Bool, true, false, not, refl, ap, sym, ◌∙◌, arith, subst}
use Rattle.std.specs.Prelude.{nat_lt, ◌==◌, ◌&&◌, ◌||◌, is_some}
use Rattle.std.specs.List.{AllByRecursion, IsDistinct, list_any, list_all}
use Rattle.std.specs.Map.{lookup, keys_of}
use Rattle.std.proofs.lemmas.Bool.Decides.{nat_tests}
use Rattle.std.proofs.lemmas.List.{length-map}
use Rattle.cal_limits.specs.declared.TheConstants.{MOST_LISTS, MOST_WIDTH, MOST_COST}
use Rattle.cal_scan.specs.Names.{same_name, AreNames}
use Rattle.cal_scan.specs.Words.{is_name}
use Rattle.cef_core.specs.declared.job.Job.{Job}
use Rattle.cef_core.specs.declared.phase.PhaseAt.{PhaseAt}
use Rattle.cef_core.specs.declared.system.System.{System}
use Rattle.cef_core.specs.Jobs.{IsJob}
use Rattle.cef_core.specs.Systems.{IsPhaseOf, IsSystem, dearest_of}
use Rattle.tdb_read.specs.Sound.{IsName, IsPhaseText, IsSound}
use Rattle.tdb_read.specs.Database.{Database}
use Rattle.cal_select.specs.declared.fault.SystemFault.TheVariants as faults
use Rattle.cal_select.specs.Valuations.{Valuation}
use Rattle.cal_select.specs.Chosen.{Word, PhaseEntry, is_in, is_vacancy, is_kept, is_listed, qualifies, is_selected, components_of, selected}
use Rattle.cal_select.specs.Selection.{phase_at, phases_at, kept_in, system_of}
use Rattle.cal_select.specs.Causes.{cause_if, is_gas, is_unknown_element, unknown_elements, unknown_phases, no_phase, ionic, too_wide, is_too_wide, phase_causes, all_phase_causes, is_too_energetic, energy_causes, lattice_causes, width_of, has_too_high, is_too_fine, limit_causes, name_causes, choice_causes, causes}
use Rattle.cal_select.proofs.Firsts.{front_none, back_none, no_cause}
use Rattle.cal_select.proofs.Any.{lookup-any}
use Rattle.cal_select.proofs.Everywhere.{all-map, all-in, all-filter, all-passed, all-causeless, all-none, right_true, left_false, right_false, some_kept}
use Rattle.cal_select.proofs.Few.{few_components, distinct-filter, same_is}
use Rattle.cal_select.proofs.Formed.{own_name}
use Rattle.cal_select.proofs.Kept_sites.{sites_among, sites_occupied}
use Rattle.cal_select.proofs.Owning.{distinct-kept}
use Rattle.cal_select.proofs.Keeping.{not_above, phase_fine}

-- ---- elements

flipped : (a b : Word) → same_name a b ≡ true → same_name b a ≡ true
flipped a b e = subst (λ (c : Word). same_name c a ≡ true) (same_is a b e) (own_name a)

either_true : (a b : Bool) → b ≡ true → (a || b) ≡ true
either_true true b e = refl
either_true false b e = e

key_found : {X : Type 0} (a : Word) (others : List Word) (es : List (Word × X)) → list_any (λ e. same_name a e.0) es ≡ true → list_any (is_in (a ∷ others)) (keys_of es) ≡ true
key_found a others [] found = cc
key_found a others (e ∷ es) found = by_test (same_name a e.0) refl found (key_found a others es)
  where
    by_test : (b : Bool) → same_name a e.0 ≡ b → (b || list_any (λ e. same_name a e.0) es) ≡ true → (list_any (λ e. same_name a e.0) es ≡ true → list_any (is_in (a ∷ others)) (keys_of es) ≡ true) →
        ((same_name e.0 a || is_in others e.0) || list_any (is_in (a ∷ others)) (keys_of es)) ≡ true
    by_test true same found rest = rw (flipped a e.0 same) refl
    by_test false same found rest = either_true (same_name e.0 a || is_in others e.0) (list_any (is_in (a ∷ others)) (keys_of es)) (rest found)

asked_found : (db : Database) (asked : List Word) → 0 < length asked → unknown_elements db asked ≡ [] → list_any (is_in asked) (keys_of db.elements) ≡ true
asked_found db [] some known = absurd (omega (arith, some))
asked_found db (a ∷ asked) some known =
    let here : is_unknown_element db a ≡ false = no_cause (is_unknown_element db a) (faults.UnknownElement a) (front_none (cause_if (is_unknown_element db a) (faults.UnknownElement a)) (unknown_elements db asked) known) in
    let there = right_false (is_gas a) (not (is_some (lookup (same_name a) db.elements))) (right_false (is_vacancy a) (is_gas a || not (is_some (lookup (same_name a) db.elements))) here) in
    key_found a asked db.elements (sym (lookup-any (same_name a) db.elements) ∙ not_false (is_some (lookup (same_name a) db.elements)) there)
  where
    not_false : (b : Bool) → not b ≡ false → b ≡ true
    not_false true e = refl
    not_false false e = cc

named : (asked : List Word) (c : Word) → AllByRecursion (λ name. is_name name ≡ true) asked → is_in asked c ≡ true → is_name c ≡ true
named [] c all found = cc
named (a ∷ asked) c all found = by_test (same_name c a) refl found (named asked c all.1)
  where
    by_test : (b : Bool) → same_name c a ≡ b → (b || is_in asked c) ≡ true → (is_in asked c ≡ true → is_name c ≡ true) → is_name c ≡ true
    by_test true same found rest = subst (λ (d : Word). is_name d ≡ true) (sym (same_is c a same)) all.0
    by_test false same found rest = rest found

components_named : (db : Database) (job : Job) → AreNames job.elements → IsDistinct same_name (keys_of db.elements) → unknown_elements db job.elements ≡ [] → AreNames (components_of db job)
components_named db job names distinct known = record {
  present = some_kept (is_in job.elements) (keys_of db.elements) (asked_found db job.elements names.present known);
  fine = all-in (λ c. is_in job.elements c ≡ true) (λ c. is_name c ≡ true) (λ c found. named job.elements c names.fine found) (components_of db job) (all-passed (is_in job.elements) (keys_of db.elements));
  distinct = distinct-filter (is_in job.elements) (keys_of db.elements) distinct;
}

-- ---- phases

names_are : (outcome : Valuation) (db : Database) (job : Job) (components : List Word) (es : List PhaseEntry) → map (λ phase. phase.name) (phases_at outcome db job components es) ≡ map (λ e. e.0) es
names_are outcome db job components [] = refl
names_are outcome db job components (e ∷ es) = ap (λ (names : List Word). e.0 ∷ names) (names_are outcome db job components es)

phases_named : (outcome : Valuation) (db : Database) (job : Job) → IsSound db → IsDistinct same_name (keys_of db.phases) → no_phase (selected db job) ≡ [] →
    AreNames (map (λ phase. phase.name) (phases_at outcome db job (components_of db job) (selected db job)))
phases_named outcome db job sound distinct present =
    subst AreNames (sym (names_are outcome db job (components_of db job) (selected db job))) (record {
      present = omega (arith, length-map (selected db job) (λ e. e.0), not_none (length (selected db job)) (no_cause (length (selected db job) == 0) faults.NoPhase present));
      fine = all-map (λ name. is_name name ≡ true) (λ e. e.0) (selected db job)
          (all-in (λ (e : PhaseEntry). IsName e.0 × IsPhaseText e.1) (λ (e : PhaseEntry). is_name e.0 ≡ true) (λ e is. is.0) (selected db job) (all-filter (λ (e : PhaseEntry). IsName e.0 × IsPhaseText e.1) (is_selected (components_of db job) job.phases) db.phases sound.phases));
      distinct = distinct-kept (is_selected (components_of db job) job.phases) db.phases distinct;
    })
  where
    not_none : (n : ℕ) → (n == 0) ≡ false → 0 < n
    not_none n e = grind (arith, nat_tests)

all-unmap : {A B : Type 0} (P : B → Type 0) (f : A → B) (xs : List A) → AllByRecursion P (map f xs) → AllByRecursion (λ x. P (f x)) xs
all-unmap P f [] all = tt
all-unmap P f (x ∷ xs) all = (all.0, all-unmap P f xs all.1)

-- what is known of each selected phase
pub record IsClear (outcome : Valuation) (db : Database) (job : Job) (components : List Word) (es : List PhaseEntry) : Type 0 where
  pub texts : AllByRecursion (λ (e : PhaseEntry). IsName e.0 × IsPhaseText e.1) es
  pub picked : AllByRecursion (λ e. is_selected components job.phases e ≡ true) es
  pub narrow : AllByRecursion (λ (e : PhaseEntry). is_too_wide e.1.ratios ≡ false) es
  pub fine : AllByRecursion (λ e. phase_causes outcome db components e ≡ []) es
  pub small : AllByRecursion (λ e. is_too_energetic (phase_at outcome db job components e) ≡ false) es
  pub low : AllByRecursion (λ e. has_too_high job.lattice (phase_at outcome db job components e) ≡ false) es

phases_keep : (outcome : Valuation) (db : Database) (job : Job) → IsJob job → IsSound db → length (components_of db job) ≤ 8 → (es : List PhaseEntry) → IsClear outcome db job (components_of db job) es →
    AllByRecursion (IsPhaseOf (system_of outcome db job)) (phases_at outcome db job (components_of db job) es)
phases_keep outcome db job asked sound few [] clear = tt
phases_keep outcome db job asked sound few (e ∷ es) clear =
    let components : List Word = components_of db job in
    let qualified : qualifies components e.1 ≡ true = right_true (is_listed job.phases e.0) (qualifies components e.1) clear.picked.0 in
    let rest = right_true (not (length e.1.sites == 0)) (list_all (list_any (is_kept components)) e.1.sites && list_any (list_any (is_in components)) e.1.sites) qualified in (
      record {
        fine = phase_fine outcome db job components e asked sound few clear.texts.0.1 qualified clear.narrow.0 clear.fine.0 clear.small.0 clear.low.0;
        same_temperature = refl;
        same_lattice = refl;
        components = sites_among components (kept_in components e);
        some_component = sites_occupied components e.1.sites (right_true (list_all (list_any (is_kept components)) e.1.sites) (list_any (list_any (is_in components)) e.1.sites) rest);
      },
      phases_keep outcome db job asked sound few es (record { texts = clear.texts.1; picked = clear.picked.1; narrow = clear.narrow.1; fine = clear.fine.1; small = clear.small.1; low = clear.low.1 }),
    )

-- ---- the system

pub system_keeps : (outcome : Valuation) (db : Database) (job : Job) → IsJob job → IsSound db → IsDistinct same_name (keys_of db.elements) → IsDistinct same_name (keys_of db.phases) →
    causes outcome db job ≡ [] → IsSystem (system_of outcome db job)
system_keeps outcome db job asked sound elements phases none =
    let components : List Word = components_of db job in
    let chosen : List PhaseEntry = selected db job in
    let system : System = system_of outcome db job in
    let names = front_none (name_causes db job) _ none in
    let choice = front_none (choice_causes chosen) _ (back_none (name_causes db job) _ none) in
    let fine = front_none (all_phase_causes outcome db components chosen) _ (back_none (choice_causes chosen) _ (back_none (name_causes db job) _ none)) in
    let limits = back_none (all_phase_causes outcome db components chosen) (limit_causes system) (back_none (choice_causes chosen) _ (back_none (name_causes db job) _ none)) in
    let energies = front_none (energy_causes system.phases) _ limits in
    let lists = front_none (lattice_causes system) _ (back_none (energy_causes system.phases) _ limits) in
    let fineness : is_too_fine system ≡ false = no_cause (is_too_fine system) faults.TooFine (back_none (lattice_causes system) _ (back_none (energy_causes system.phases) _ limits)) in
    let costs = right_false (nat_lt MOST_WIDTH (width_of system)) (nat_lt MOST_COST (width_of system * dearest_of system.phases) || list_any (has_too_high system.lattice) system.phases) fineness in
    let wide : too_wide chosen ≡ [] = back_none (ionic chosen) (too_wide chosen) (back_none (no_phase chosen) (ionic chosen ++ too_wide chosen) choice) in
    let few : length components ≤ 8 = omega (arith, few_components job.elements (keys_of db.elements) elements, asked.elements.1) in
    record {
      few_elements = few;
      elements = components_named db job asked.elements.0 elements (front_none (unknown_elements db job.elements) (unknown_phases db job.phases) names);
      names = phases_named outcome db job sound phases (front_none (no_phase chosen) (ionic chosen ++ too_wide chosen) choice);
      phases = phases_keep outcome db job asked sound few chosen (record {
        texts = all-filter (λ (e : PhaseEntry). IsName e.0 × IsPhaseText e.1) (is_selected components job.phases) db.phases sound.phases;
        picked = all-passed (is_selected components job.phases) db.phases;
        narrow = all-in (λ (e : PhaseEntry). cause_if (is_too_wide e.1.ratios) (faults.RatiosTooWide e.1.line) ≡ []) (λ (e : PhaseEntry). is_too_wide e.1.ratios ≡ false)
            (λ e c. no_cause (is_too_wide e.1.ratios) (faults.RatiosTooWide e.1.line) c) chosen (all-causeless (λ (e : PhaseEntry). cause_if (is_too_wide e.1.ratios) (faults.RatiosTooWide e.1.line)) chosen wide);
        fine = all-causeless (phase_causes outcome db components) chosen fine;
        small = all-unmap (λ phase. is_too_energetic phase ≡ false) (phase_at outcome db job components) chosen
            (all-in (λ (phase : PhaseAt). cause_if (is_too_energetic phase) (faults.EnergyTooLarge phase.name) ≡ []) (λ phase. is_too_energetic phase ≡ false)
            (λ phase c. no_cause (is_too_energetic phase) (faults.EnergyTooLarge phase.name) c) system.phases (all-causeless (λ (phase : PhaseAt). cause_if (is_too_energetic phase) (faults.EnergyTooLarge phase.name)) system.phases energies));
        low = all-unmap (λ phase. has_too_high job.lattice phase ≡ false) (phase_at outcome db job components) chosen
            (all-none (has_too_high job.lattice) system.phases (right_false (nat_lt MOST_COST (width_of system * dearest_of system.phases)) (list_any (has_too_high system.lattice) system.phases) costs));
      });
      lists_are = refl;
      lists_few = not_above MOST_LISTS system.lists (no_cause (nat_lt MOST_LISTS system.lists) faults.LatticeTooLarge lists);
      widest_is = refl;
      wide = not_above MOST_WIDTH (width_of system) (left_false (nat_lt MOST_WIDTH (width_of system)) _ fineness);
      dear = not_above MOST_COST (width_of system * dearest_of system.phases) (left_false (nat_lt MOST_COST (width_of system * dearest_of system.phases)) _ costs);
    }
