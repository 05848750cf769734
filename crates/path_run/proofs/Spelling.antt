-- The path of a walk is within the limits of texts.
use Rattle.std.proofs.Common.{◌≡◌, ℕ, suc, ◌≤◌, List, [], ◌∷◌, length, map, refl, sym, ap, ◌∙◌, subst}
use Rattle.std.proofs.Common.{arith, Option, Some, Bool, true, false, inl, inr, slice_get, get_or}
use Rattle.std.specs.Prelude.{ℤ, pos, ◌+ℤ◌, ◌≤ℤ◌, ◌||◌}
use Rattle.std.specs.List.{AllByRecursion, list_any}
use Rattle.std.specs.Option.{option_map_or}
use Rattle.std.proofs.lemmas.Bool.{cases_lt}
use Rattle.std.proofs.lemmas.Int.{ints}
use Rattle.std.proofs.lemmas.Option.{slice_get_within, slice_get-get_or}
use Rattle.cal_limits.specs.declared.TheConstants.{MOST_ASKED}
use Rattle.cal_math.specs.Vectors.{at}
use Rattle.cal_scan.specs.Lines.{Word}
use Rattle.cal_scan.specs.Names.{same_name}
use Rattle.cal_scan.specs.Words.{is_name}
use Rattle.cef_core.specs.declared.phase.PhaseAt.{PhaseAt}
use Rattle.cef_core.specs.declared.system.System.{System}
use Rattle.cef_report.specs.Spelled.{IsNumber, IsAsked, AreNumbers}
use Rattle.cef_path.specs.declared.finish.Finish.{Finish}
use Rattle.cef_path.specs.declared.limit.TheConstants.{MOST_STEPS}
use Rattle.cef_path.specs.declared.step.StepText.{StepText}
use Rattle.cef_path.specs.Paths.{asked_at, StepsHold}
use Rattle.cef_path.specs.Spelled.{IsSpelledStep, IsSpelledPath}
use Rattle.tdb_read.specs.Database.{Database}
use Rattle.cal_select.proofs.Few.{same_is}
use Rattle.cal_scheil.specs.declared.account.Account.{Account}
use Rattle.cal_scheil.specs.declared.job.PathJob.{PathJob}
use Rattle.cal_scheil.specs.Accounts.{IsAccount}
use Rattle.cal_scheil.specs.Walks.{IsPathJob, job_at, WalkState}
use Rattle.cal_scheil.specs.Walked.{path_of}
use Rattle.cal_scheil.proofs.Elements.{elements_of}
use Rattle.path_run.specs.Steps.{path_start, AreSteps}
use Rattle.path_run.specs.Workings.{HasOutcomes, HasMade}
use Rattle.path_run.proofs.Making.{systems_of, are_steps}

-- ---- numbers

asked_number : (x : ℤ) → pos 0 ≤ℤ x → x ≤ℤ pos MOST_ASKED → IsNumber x
asked_number x low high = omega (arith, ints, low, high)

asked_numbers : (xs : List ℤ) → AllByRecursion IsAsked xs → AllByRecursion IsNumber xs
asked_numbers [] all = tt
asked_numbers (x ∷ xs) all = (asked_number x all.0.0 all.0.1, asked_numbers xs all.1)

numbers_at : (xs : List ℤ) → ((c : ℕ) → IsNumber (at xs c)) → AllByRecursion IsNumber xs
numbers_at [] each = tt
numbers_at (x ∷ xs) each = (each 0, numbers_at xs (λ c. each (suc c)))

-- each of three numbers that are not below 0 and together what was asked
one_of_three : (a x y z : ℤ) → a ≤ℤ pos MOST_ASKED → pos 0 ≤ℤ x → pos 0 ≤ℤ y → pos 0 ≤ℤ z → a ≡ (x +ℤ y) +ℤ z →
    IsNumber x × IsNumber y × IsNumber z
one_of_three a x y z most low_x low_y low_z is = (
  omega (arith, ints, most, low_x, low_y, low_z, is),
  omega (arith, ints, most, low_x, low_y, low_z, is),
  omega (arith, ints, most, low_x, low_y, low_z, is),
)

kept_at : (account : Account) → IsAccount account → (c : ℕ) →
    IsNumber (at account.solids c) × IsNumber (at account.remains c) × IsNumber (at account.lost c)
kept_at account is c =
    one_of_three (at account.asked c) (at account.solids c) (at account.remains c) (at account.lost c)
    (is.asked_high c) (is.solids_low c) (is.remains_low c) (is.lost_low c) (is.balanced c)

-- ---- the name of the liquid

any_named : (name : Word) (phases : List PhaseAt) → AllByRecursion (λ w. is_name w ≡ true) (map (λ (phase : PhaseAt). phase.name) phases) →
    list_any (λ (phase : PhaseAt). same_name phase.name name) phases ≡ true → is_name name ≡ true
any_named name [] fine has = absurd cc
any_named name (p ∷ phases) fine has = by_first (same_name p.name name) refl has (any_named name phases fine.1)
  where
    by_first : (b : Bool) → same_name p.name name ≡ b → (b || list_any (λ (phase : PhaseAt). same_name phase.name name) phases) ≡ true →
        (list_any (λ (phase : PhaseAt). same_name phase.name name) phases ≡ true → is_name name ≡ true) → is_name name ≡ true
    by_first true same has behind = subst (λ (w : Word). is_name w ≡ true) (same_is p.name name same) fine.0
    by_first false same has behind = behind has

-- ---- what a step leaves

-- the next step asks it, and the walk keeps what the last one left
left_numbers : (db : Database) (job : PathJob) (steps : List StepText) (walk : WalkState) (systems : ℕ → System) → HasMade db job steps walk →
    StepsHold systems (path_start db job) steps → (i : ℕ) (x : StepText) → slice_get steps i ≡ Some x → AllByRecursion IsNumber x.left
left_numbers db job steps walk systems made hold i x e = elim (cases_lt (suc i) (length steps)) [
  | inl lt ↦
      let y : StepText = get_or steps (suc i) x in
      let next = hold (suc i) y (slice_get-get_or steps (suc i) x lt) in
      asked_numbers x.left (subst (λ (xs : List ℤ). AllByRecursion IsAsked xs) (next.holds.asked_are ∙ here) next.spelled.asked.1)
  | inr ge ↦
      let last : length steps ≡ suc i = omega (arith, ge, slice_get_within steps i x e) in
      let kept : walk.account.remains ≡ x.left =
      made.walked.asks ∙ ap (λ (k : ℕ). asked_at walk.account.asked steps k) last ∙ here in
      subst (λ (xs : List ℤ). AllByRecursion IsNumber xs) kept
      (numbers_at walk.account.remains (λ c. (kept_at walk.account made.walked.keeps.account c).1))
]
  where
    here : option_map_or (λ (step : StepText). step.left) (slice_get steps i) [] ≡ x.left
    here = ap (λ (o : Option StepText). option_map_or (λ (step : StepText). step.left) o []) e

-- ---- the steps

all_by_place : {A : Type 0} (P : A → Type 0) (xs : List A) → ((i : ℕ) (x : A) → slice_get xs i ≡ Some x → P x) → AllByRecursion P xs
all_by_place P [] each = tt
all_by_place P (x ∷ xs) each = (each 0 x refl, all_by_place P xs (λ i y e. each (suc i) y e))

few : (db : Database) (job : PathJob) (steps : List StepText) (walk : WalkState) → HasMade db job steps walk → length steps ≤ MOST_STEPS
few db job steps walk made = subst (λ (n : ℕ). n ≤ MOST_STEPS) made.walked.count made.walked.keeps.few_steps

spelled_step : (db : Database) (job : PathJob) (steps : List StepText) (walk : WalkState) (systems : ℕ → System) → HasMade db job steps walk →
    StepsHold systems (path_start db job) steps → (i : ℕ) (x : StepText) → slice_get steps i ≡ Some x → IsSpelledStep x
spelled_step db job steps walk systems made hold i x e =
    let is = hold i x e in
    record {
      number_low = omega (arith, is.number);
      number_high = omega (arith, is.number, slice_get_within steps i x e, few db job steps walk made);
      report = is.spelled;
      left = (is.left.one_each, left_numbers db job steps walk systems made hold i x e);
    }

-- ---- the path

asks : (db : Database) (job : PathJob) (steps : List StepText) (walk : WalkState) → HasMade db job steps walk → IsPathJob job
asks db job steps walk made = subst IsPathJob made.walked.same_job made.walked.keeps.asks

-- the names of the walk are as many as the elements of its first report
each_named : (db : Database) (job : PathJob) (s : StepText) (ss : List StepText) (walk : WalkState) (systems : ℕ → System) → HasOutcomes db →
    HasMade db job (s ∷ ss) walk → AreSteps db job systems (s ∷ ss) → length walk.account.names ≡ length s.report.elements
each_named db job s ss walk systems known made are =
    let system = systems s.report.t in
    let selected = (are.systems_are 0 s refl).selected in
    ap length (made.walked.in_system_order (λ e. cc)
    ∙ sym (elements_of db (job_at job.job s.report.t) system known.law known.functions selected)
    ∙ sym (are.hold 0 s refl).holds.same_elements)

spelled_over : (db : Database) (job : PathJob) (s : StepText) (ss : List StepText) (walk : WalkState) (finish : Finish) (systems : ℕ → System) →
    HasOutcomes db → HasMade db job (s ∷ ss) walk → AreSteps db job systems (s ∷ ss) → IsSpelledPath (path_of job (s ∷ ss) walk finish)
spelled_over db job s ss walk finish systems known made are =
    let job_is = asks db job (s ∷ ss) walk made in
    let first = are.hold 0 s refl in
    let account = made.walked.keeps.account in
    let each = each_named db job s ss walk systems known made are in
    let kept = kept_at walk.account account in
    let n : ℕ = length s.report.elements in
    let solids : AreNumbers n walk.account.solids = (account.solids_each ∙ each, numbers_at walk.account.solids (λ c. (kept c).0)) in
    let remains : AreNumbers n walk.account.remains = (account.remains_each ∙ each, numbers_at walk.account.remains (λ c. (kept c).1)) in
    let lost : AreNumbers n walk.account.lost = (account.lost_each ∙ each, numbers_at walk.account.lost (λ c. (kept c).2)) in
    record {
      liquid = any_named job.liquid (systems s.report.t).phases
          (subst (λ (ws : List Word). AllByRecursion (λ w. is_name w ≡ true) ws) first.holds.same_phases first.spelled.phases.fine)
          (are.systems_are 0 s refl).has_liquid;
      descent_low = job_is.descent_low;
      descent_high = job_is.descent_high;
      floor_low = job_is.floor_low;
      floor_high = omega (arith, job_is.floor_high, job_is.job_is.hottest);
      stop = job_is.stop_high;
      few_steps = few db job (s ∷ ss) walk made;
      steps = all_by_place IsSpelledStep (s ∷ ss) (spelled_step db job (s ∷ ss) walk systems made are.hold);
      lists = (solids, (remains, (lost, tt)));
      stand = made.stand;
    }

pub spelled : (db : Database) (job : PathJob) (s : StepText) (ss : List StepText) (walk : WalkState) (finish : Finish) → HasOutcomes db →
    HasMade db job (s ∷ ss) walk → IsSpelledPath (path_of job (s ∷ ss) walk finish)
spelled db job s ss walk finish known made =
    let systems = systems_of db job (s ∷ ss) walk known made in
    spelled_over db job s ss walk finish systems.0 known made (are_steps db job (s ∷ ss) walk systems.0 known made systems.1)
