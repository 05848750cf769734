-- The elements of a selected system are the asked ones.
use Rattle.std.proofs.Common.{◌≡◌, ℕ, List, [], ◌∷◌, ◌++◌, Option, Some, None, Bool, true, false, cond, refl, sym, ap, ◌∙◌, subst, filter}
use Rattle.std.specs.Prelude.{◌||◌, not, is_some, Ok}
use Rattle.std.specs.List.{AllByRecursion, flat_map, list_any}
use Rattle.std.specs.Map.{lookup, keys_of}
use Rattle.std.proofs.lemmas.Map.Made.{is_some-lookup}
use Rattle.cal_scan.specs.Names.{same_name}
use Rattle.tdb_expr.specs.declared.ranged.Ranged.{Ranged}
use Rattle.tdb_expr.specs.Forms.{IsRanged}
use Rattle.temp_fun.specs.Functions.{Functions, AreFunctions}
use Rattle.temp_fun.specs.Outcomes.{SomeOutcome}
use Rattle.cef_core.specs.declared.job.Job.{Job}
use Rattle.cef_core.specs.declared.system.System.{System}
use Rattle.tdb_read.specs.Database.{Database}
use Rattle.cal_select.specs.Chosen.{Word, is_in, is_vacancy, components_of, selected}
use Rattle.cal_select.specs.Valuations.{Valuation, AreOutcomes}
use Rattle.cal_select.specs.Selection.{system_of}
use Rattle.cal_select.specs.declared.fault.SystemFault.{SystemFault}
use Rattle.cal_select.specs.declared.fault.SystemFault.TheVariants as faults
use Rattle.cal_select.specs.Causes.{causes, name_causes, choice_causes, all_phase_causes, limit_causes, unknown_elements, unknown_phases, is_unknown_element, is_gas, cause_if}
use Rattle.cal_select.proofs.Valuing.{a_valuation}
use Rattle.cal_select.proofs.Few.{same_is}
use Rattle.cal_select.proofs.Firsts.{front_none, back_none}
use Rattle.cal_scheil.specs.Steps.{IsSelected}
use Rattle.cal_scheil.specs.Workings.{EachHasOutcome}

-- ---- one system is selected

pub valued : (db : Database) (t : ℕ) → EachHasOutcome → AreFunctions db.functions → (outcome : Valuation) × AreOutcomes db.functions t outcome
valued db t law functions = a_valuation db.functions t (λ ranged is. law db.functions t ranged functions is)

pub selected_once : (db : Database) (job : Job) (a b : System) → EachHasOutcome → AreFunctions db.functions → IsSelected db job a → IsSelected db job b → a ≡ b
selected_once db job a b law functions first second =
    let v = valued db job.t law functions in
    (first v.0 v.1).1 ∙ sym (second v.0 v.1).1

pub elements_of : (db : Database) (job : Job) (system : System) → EachHasOutcome → AreFunctions db.functions → IsSelected db job system → system.elements ≡ components_of db job
elements_of db job system law functions is_selected =
    let v = valued db job.t law functions in
    ap (λ (s : System). s.elements) (is_selected v.0 v.1).1

-- ---- its elements are those that are asked

not_unknown : (known : Bool) (vacancy gas : Bool) (fault : SystemFault) → cause_if (vacancy || (gas || not known)) fault ≡ [] → known ≡ true
not_unknown true vacancy gas fault none = refl
not_unknown false true gas fault none = absurd cc
not_unknown false false true fault none = absurd cc
not_unknown false false false fault none = absurd cc

right_true : (a b : Bool) → b ≡ true → (a || b) ≡ true
right_true true b e = refl
right_true false b e = e

-- each asked name is that of an element of the database
known : (db : Database) (asked : List Word) (name : Word) → unknown_elements db asked ≡ [] → is_in asked name ≡ true → is_in (keys_of db.elements) name ≡ true
known db [] name none found = absurd cc
known db (x ∷ asked) name none found = by (same_name name x) refl found (known db asked name)
  where
    here : cause_if (is_unknown_element db x) (faults.UnknownElement x) ≡ []
    here = front_none (cause_if (is_unknown_element db x) (faults.UnknownElement x)) (unknown_elements db asked) none

    behind : unknown_elements db asked ≡ []
    behind = back_none (cause_if (is_unknown_element db x) (faults.UnknownElement x)) (unknown_elements db asked) none

    by : (b : Bool) → same_name name x ≡ b → (b || is_in asked name) ≡ true → (unknown_elements db asked ≡ [] → is_in asked name ≡ true → is_in (keys_of db.elements) name ≡ true)
        → is_in (keys_of db.elements) name ≡ true
    by true e f rest =
        let x_known : is_some (lookup (same_name x) db.elements) ≡ true = not_unknown (is_some (lookup (same_name x) db.elements)) (is_vacancy x) (is_gas x) (faults.UnknownElement x) here in
        subst (λ (n : Word). is_in (keys_of db.elements) n ≡ true) (sym (same_is name x e)) (sym (is_some-lookup (same_name x) db.elements) ∙ x_known)
    by false e f rest = rest behind f

first_in : (b : Bool) (x : Word) (zs : List Word) (name : Word) → b ≡ true → same_name name x ≡ true → is_in (cond b (x ∷ zs) zs) name ≡ true
first_in true x zs name on e = rw e refl
first_in false x zs name on e = absurd cc

later_in : (b : Bool) (x : Word) (zs : List Word) (name : Word) → is_in zs name ≡ true → is_in (cond b (x ∷ zs) zs) name ≡ true
later_in true x zs name rest = right_true (same_name name x) (is_in zs name) rest
later_in false x zs name rest = rest

in_filter : (asked names : List Word) (name : Word) → is_in asked name ≡ true → is_in names name ≡ true → is_in (filter (is_in asked) names) name ≡ true
in_filter asked [] name on found = absurd cc
in_filter asked (x ∷ names) name on found = by (same_name name x) refl found (in_filter asked names name on)
  where
    by : (b : Bool) → same_name name x ≡ b → (b || is_in names name) ≡ true → (is_in names name ≡ true → is_in (filter (is_in asked) names) name ≡ true) → is_in (filter (is_in asked) (x ∷ names)) name ≡ true
    by true e f rest = first_in (is_in asked x) x (filter (is_in asked) names) name (subst (λ (n : Word). is_in asked n ≡ true) (same_is name x e) on) e
    by false e f rest = later_in (is_in asked x) x (filter (is_in asked) names) name (rest f)

of_first : (asked : List Word) (x : Word) (zs : List Word) (name : Word) (b : Bool) → same_name name x ≡ b → is_in asked x ≡ true → (b || is_in zs name) ≡ true → (is_in zs name ≡ true → is_in asked name ≡ true) → is_in asked name ≡ true
of_first asked x zs name true e on f rest = subst (λ (n : Word). is_in asked n ≡ true) (sym (same_is name x e)) on
of_first asked x zs name false e on f rest = rest f

of_filter : (asked names : List Word) (name : Word) → is_in (filter (is_in asked) names) name ≡ true → is_in asked name ≡ true
of_filter asked [] name found = absurd cc
of_filter asked (x ∷ names) name found = by (is_in asked x) refl found (of_filter asked names name)
  where
    by : (b : Bool) → is_in asked x ≡ b → is_in (cond b (x ∷ filter (is_in asked) names) (filter (is_in asked) names)) name ≡ true → (is_in (filter (is_in asked) names) name ≡ true → is_in asked name ≡ true) → is_in asked name ≡ true
    by true e f rest = of_first asked x (filter (is_in asked) names) name (same_name name x) refl e f rest
    by false e f rest = rest f

both_ways : (a b : Bool) → (a ≡ true → b ≡ true) → (b ≡ true → a ≡ true) → a ≡ b
both_ways true b to from = sym (to refl)
both_ways false true to from = from refl
both_ways false false to from = refl

pub same_elements : (db : Database) (job : Job) (system : System) → EachHasOutcome → AreFunctions db.functions → IsSelected db job system → (name : Word) → is_in system.elements name ≡ is_in job.elements name
same_elements db job system law functions is_selected name =
    let v = valued db job.t law functions in
    let gives = is_selected v.0 v.1 in
    let names_known = front_none (name_causes db job) (choice_causes (selected db job) ++ (all_phase_causes v.0 db (components_of db job) (selected db job) ++ limit_causes (system_of v.0 db job))) gives.0 in
    let elements_known = front_none (unknown_elements db job.elements) (unknown_phases db job.phases) names_known in
    let is : system.elements ≡ components_of db job = elements_of db job system law functions is_selected in
    rw is (both_ways (is_in (components_of db job) name) (is_in job.elements name)
    (of_filter job.elements (keys_of db.elements) name)
    (λ on. in_filter job.elements (keys_of db.elements) name on (known db job.elements name elements_known on)))
