use Rattle.std.proofs.Common.{◌≡◌, ◌∙◌, ◌++◌, [], Some, sym, ap, subst, arith, length, List}
use Rattle.std.specs.Prelude.{filter}
use Rattle.std.specs.Map.{keys_of}
use Rattle.cef_core.specs.declared.phase.PhaseAt.{PhaseAt}
use Rattle.cal_select.specs.Chosen.{Word, is_in, is_selected, components_of, selected}
use Rattle.cal_select.specs.Selection.{phases_at, system_with, system_of}
use Rattle.cal_select.specs.Causes.{first, name_causes, choice_causes, all_phase_causes, limit_causes, causes, no_phase, ionic, too_wide}
use Rattle.cal_select.proofs.Firsts.{back_none}
use Rattle.cal_select.proofs.Answered.{replaced, behind_all, told_second, told_third}
use Rattle.cal_select.proofs.selecting.chosen_system.Goals as goal

pub phases-requires-clause-components : goal.phases-requires-clause-components
phases-requires-clause-components c = omega (arith, ap length c.as_slice-components.ensures, ap length c.as_slice.ensures, c.in_ok-elements.ensures.few, c.requires.job.elements.1)

pub phases-requires-clause-narrow : goal.phases-requires-clause-narrow
phases-requires-clause-narrow c =
    let chosen = filter (is_selected c.as_slice-components.result.now c.args.job.now.phases) c.args.db.now.phases in
    back_none (ionic chosen) (too_wide chosen) (back_none (no_phase chosen) (ionic chosen ++ too_wide chosen) c.in_default-allowed_choice.ensures)

pub phases-requires-clause-groups : goal.phases-requires-clause-groups
phases-requires-clause-groups c = c.in_ok-groups.ensures

pub returns-in-Err-allowed_choice : goal.returns-in-Err-allowed_choice
returns-in-Err-allowed_choice c = λ outcome are apart.
    let db = c.args.db.now in
    let job = c.args.job.now in
    let e : c.as_slice-components.result.now ≡ components_of db job =
    c.as_slice-components.ensures ∙ (c.in_ok-elements.ensures.value ∙ ap (λ (asked : List Word). filter (is_in asked) (keys_of db.elements)) c.as_slice.ensures) in
    let told = subst (λ (names : List Word). first (choice_causes (filter (is_selected names job.phases) db.phases)) ≡ Some c.in-Err-allowed_choice.fault) e (c.in-Err-allowed_choice.ensures apart) in
    told_second (name_causes db job) (choice_causes (selected db job)) (all_phase_causes outcome db (components_of db job) (selected db job)) (limit_causes (system_of outcome db job)) c.in-Err-allowed_choice.fault
    c.in_default.ensures told

pub returns-in-Err-phases : goal.returns-in-Err-phases
returns-in-Err-phases c = λ outcome are apart.
    let db = c.args.db.now in
    let job = c.args.job.now in
    let e : c.as_slice-components.result.now ≡ components_of db job =
    c.as_slice-components.ensures ∙ (c.in_ok-elements.ensures.value ∙ ap (λ (asked : List Word). filter (is_in asked) (keys_of db.elements)) c.as_slice.ensures) in
    let none_chosen : choice_causes (selected db job) ≡ [] = subst (λ (names : List Word). choice_causes (filter (is_selected names job.phases) db.phases) ≡ []) e c.in_default-allowed_choice.ensures in
    let told = subst (λ (names : List Word). first (all_phase_causes outcome db names (filter (is_selected names job.phases) db.phases)) ≡ Some c.in-Err-phases.fault) e (c.in-Err-phases.ensures.gives outcome are apart) in
    told_third (name_causes db job) (choice_causes (selected db job)) (all_phase_causes outcome db (components_of db job) (selected db job)) (limit_causes (system_of outcome db job)) c.in-Err-phases.fault
    c.in_default.ensures none_chosen told

pub returns-in-Ok : goal.returns-in-Ok
returns-in-Ok c = λ outcome are.
    let db = c.args.db.now in
    let job = c.args.job.now in
    let of_asked = c.in_ok-elements.ensures.value ∙ ap (λ (asked : List Word). filter (is_in asked) (keys_of db.elements)) c.as_slice.ensures in
    let e : c.as_slice-components.result.now ≡ components_of db job = c.as_slice-components.ensures ∙ of_asked in
    let gives = c.in-Ok.ensures.gives outcome are in
    let none_chosen : choice_causes (selected db job) ≡ [] = subst (λ (names : List Word). choice_causes (filter (is_selected names job.phases) db.phases) ≡ []) e c.in_default-allowed_choice.ensures in
    let none_made : all_phase_causes outcome db (components_of db job) (selected db job) ≡ [] =
    subst (λ (names : List Word). all_phase_causes outcome db names (filter (is_selected names job.phases) db.phases) ≡ []) e gives.0 in
    let made : c.in-Ok.phases ≡ phases_at outcome db job (components_of db job) (selected db job) =
    gives.1 ∙ ap (λ (names : List Word). phases_at outcome db job names (filter (is_selected names job.phases) db.phases)) e in
    let same : system_with job c.in_ok-elements.elements c.in-Ok.phases ≡ system_of outcome db job =
    ap (λ (names : List Word). system_with job names c.in-Ok.phases) of_asked ∙ ap (λ (phases : List PhaseAt). system_with job (components_of db job) phases) made in
    let all : causes outcome db job ≡ limit_causes (system_with job c.in_ok-elements.elements c.in-Ok.phases) =
    behind_all (name_causes db job) (choice_causes (selected db job)) (all_phase_causes outcome db (components_of db job) (selected db job)) (limit_causes (system_of outcome db job)) c.in_default.ensures none_chosen none_made
    ∙ ap limit_causes (sym same) in
    replaced c.limited.result (limit_causes (system_with job c.in_ok-elements.elements c.in-Ok.phases)) (causes outcome db job) (system_with job c.in_ok-elements.elements c.in-Ok.phases) (system_of outcome db job) all (sym same) c.limited.ensures
