-- The steps that a walk has made are those of a path.
use Rattle.std.proofs.Common.{◌≡◌, ℕ, zero, suc, ◌+◌, ◌*◌, ◌-◌, ◌<◌, ◌≤◌, List, [], ◌∷◌, ◌++◌, length, refl, sym, ap}
use Rattle.std.proofs.Common.{◌∙◌, subst, arith, Option, Some, None, inl, inr, slice_get}
use Rattle.std.specs.Prelude.{ℤ, ◌⊎◌, ◌+ℤ◌}
use Rattle.std.specs.List.{flat_map}
use Rattle.std.specs.Option.{option_map_or}
use Rattle.std.proofs.lemmas.List.{length_push, length-append}
use Rattle.std.proofs.lemmas.Bool.{cases_lt}
use Rattle.std.proofs.lemmas.Option.{slice_get_within}
use Rattle.cal_math.specs.Vectors.{at}
use Rattle.cal_scan.specs.Lines.{Word, Line}
use Rattle.cef_core.specs.declared.system.System.{System}
use Rattle.cef_path.specs.declared.finish.Finish.{Finish}
use Rattle.cef_path.specs.declared.start.PathStart.{PathStart}
use Rattle.cef_path.specs.declared.step.StepText.{StepText}
use Rattle.cef_path.specs.Paths.{asked_at, StepsHold, HasFinish, GoOn, PathHolds}
use Rattle.cef_path.specs.Spelled.{first_step_line, StandAt}
use Rattle.cef_path.specs.Texts.{lines_of_step}
use Rattle.eq_solve.specs.Equilibria.{IsEquilibrium}
use Rattle.tdb_read.specs.Database.{Database}
use Rattle.cal_select.specs.Chosen.{components_of}
use Rattle.cal_scheil.specs.declared.job.PathJob.{PathJob}
use Rattle.cal_scheil.specs.declared.step.Stepped.{Stepped}
use Rattle.cal_scheil.specs.Accounts.{in_order, account_in_order}
use Rattle.cal_scheil.specs.Walks.{IsPathJob, job_at, path_job_at, start_of, WalkState, walk_of, IsWalk}
use Rattle.cal_scheil.specs.Steps.{IsSelected, IsSystemOf, job_of, Takes}
use Rattle.cal_scheil.specs.Walked.{numbered, AreSelected, start_at, Walked, path_of}
use Rattle.cal_scheil.proofs.Ordering.{in_own_order}
use Rattle.cal_scheil.proofs.Elements.{valued, selected_once, elements_of}
use Rattle.cal_scheil.proofs.Walked.{begins, goes_on, selects, ends}
use Rattle.path_run.specs.Steps.{first_asked, path_start, AreSteps, job_behind, asked_behind}
use Rattle.path_run.specs.Workings.{HasOutcomes, IsSolved, HasMade, line_behind}

-- ---- lists with one more at their end

none_there : (i : ℕ) (x : StepText) → slice_get [] i ≡ Some x → ⊥
none_there i x e = let lt : i < 0 = slice_get_within [] i x e in omega (arith, lt)

get-front : {A : Type 0} (xs : List A) (y : A) (i : ℕ) → i < length xs → slice_get (xs ++ y ∷ []) i ≡ slice_get xs i
get-front [] y i lt = absurd (omega (arith, lt))
get-front (x ∷ xs) y zero lt = refl
get-front (x ∷ xs) y (suc i) lt = get-front xs y i (omega (arith, lt))

get-end : {A : Type 0} (xs : List A) (y : A) → slice_get (xs ++ y ∷ []) (length xs) ≡ Some y
get-end [] y = refl
get-end (x ∷ xs) y = get-end xs y

one_there : {A : Type 0} (x y : A) (o : Option A) → o ≡ Some x → o ≡ Some y → y ≡ x
one_there x y o a b = cc

-- an index of the longer list is one of the shorter, or its end
cases_push : {A : Type 0} (xs : List A) (y : A) (i : ℕ) (x : A) → slice_get (xs ++ y ∷ []) i ≡ Some x →
    ((i < length xs) × (slice_get xs i ≡ Some x)) ⊎ ((i ≡ length xs) × (x ≡ y))
cases_push xs y i x e = elim (cases_lt i (length xs)) [
  | inl lt ↦ inl (lt, sym (get-front xs y i lt) ∙ e)
  | inr ge ↦
      let within = slice_get_within (xs ++ y ∷ []) i x e in
      let same : i ≡ length xs = omega (arith, within, ge, length_push xs y) in
      inr (same, one_there y x (slice_get (xs ++ y ∷ []) (length xs)) (get-end xs y) (subst (λ (k : ℕ). slice_get (xs ++ y ∷ []) k ≡ Some x) same e))
]

asked-front : (asked : List ℤ) (steps : List StepText) (s : StepText) (i : ℕ) → i ≤ length steps →
    asked_at asked (steps ++ s ∷ []) i ≡ asked_at asked steps i
asked-front asked steps s zero le = refl
asked-front asked steps s (suc i) le =
    ap (λ (o : Option StepText). option_map_or (λ step. step.left) o []) (get-front steps s i (omega (arith, le)))

-- ---- where steps stand

behind_both : (n : ℕ) (a b : List Line) → n + length (a ++ b) ≡ (n + length a) + length b
behind_both n a b = omega (arith, length-append a b)

stand-push : (n : ℕ) (steps : List StepText) (s : StepText) → StandAt n steps → s.line ≡ n + length (flat_map lines_of_step steps) →
    StandAt n (steps ++ s ∷ [])
stand-push n [] s stand is = (is ∙ omega arith, tt)
stand-push n (x ∷ xs) s stand is = (
  stand.0,
  stand-push (n + length (lines_of_step x)) xs s stand.1
      (is ∙ behind_both n (lines_of_step x) (flat_map lines_of_step xs)),
)

-- ---- what is asked

-- what was asked at first, in the order of the names behind the first step
asked_is : (db : Database) (job : PathJob) (s : StepText) (ss : List StepText) (walk : WalkState) → Walked db job (s ∷ ss) walk →
    walk.account.asked ≡ first_asked db job
asked_is db job s ss walk walked =
    let names = walked.in_system_order (λ e. cc) in
    walked.asked_first ∙ ap (in_order job.job.elements job.asked) names

start_is : (db : Database) (job : PathJob) (s : StepText) (ss : List StepText) (walk : WalkState) → Walked db job (s ∷ ss) walk →
    start_at job walk ≡ path_start db job
start_is db job s ss walk walked = ap (start_of job) (asked_is db job s ss walk walked)

-- what the next step asks, in the order of the system's elements
pub asked_next : (db : Database) (job : PathJob) (steps : List StepText) (walk : WalkState) (order : List Word) → Walked db job steps walk →
    order ≡ components_of db job.job → (account_in_order walk.account order).remains ≡ asked_behind db job steps
asked_next db job [] walk order walked is =
    subst (λ (w : WalkState). in_order w.account.names w.account.remains order ≡ first_asked db job) (sym (walked.unmoved refl))
    (ap (in_order job.job.elements job.asked) is)
asked_next db job (s ∷ ss) walk order walked is =
    let names : walk.account.names ≡ order = walked.in_system_order (λ e. cc) ∙ sym is in
    let account = walked.keeps.account in
    let own = in_own_order walk.account.names walk.account.remains account.names.distinct account.remains_each in
    subst (λ (ws : List Word). in_order walk.account.names walk.account.remains ws ≡ walk.account.remains) names own
    ∙ walked.asks
    ∙ ap (λ (asked : List ℤ). asked_at asked (s ∷ ss) (length (s ∷ ss))) (asked_is db job s ss walk walked)

-- the job of the next step
pub job_next : (db : Database) (job : PathJob) (steps : List StepText) (walk : WalkState) → Walked db job steps walk →
    job_of walk ≡ job_behind job steps
job_next db job steps walk walked =
    let cold : walk.t ≡ job.job.t - length steps * job.descent =
    walked.keeps.temperature
    ∙ ap (λ (j : PathJob). j.job.t - walk.steps * j.descent) walked.same_job
    ∙ ap (λ (n : ℕ). job.job.t - n * job.descent) walked.count in
    ap (λ (j : PathJob). path_job_at j walk.t) walked.same_job ∙ ap (path_job_at job) cold

-- ---- one more step

pub made_first : (db : Database) (job : PathJob) → IsPathJob job → HasMade db job [] (walk_of job)
made_first db job is = record { walked = begins db job is; solved = λ i x e. absurd (none_there i x e); stand = tt }

solved_on : (db : Database) (steps : List StepText) (before after : WalkState) (step : Stepped) (line : ℕ) → HasOutcomes db →
    HasMade db before.job steps before → Takes db before step after → (i : ℕ) (x : StepText) →
    slice_get (steps ++ numbered (before.steps + 1) line step ∷ []) i ≡ Some x →
    IsSolved db before.job (steps ++ numbered (before.steps + 1) line step ∷ []) i x
solved_on db steps before after step line known made takes i x e = elim (cases_push steps s i x e) [
  | inl old ↦ front (made.solved i x old.1) old.0
  | inr new ↦ subst (λ (k : ℕ). IsSolved db job more k x) (sym new.0)
      (subst (λ (y : StepText). IsSolved db job more (length steps) y) (sym new.1) this)
]
  where
    job : PathJob
    job = before.job

    s : StepText
    s = numbered (before.steps + 1) line step

    more : List StepText
    more = steps ++ s ∷ []

    front : IsSolved db job steps i x → i < length steps → IsSolved db job more i x
    front old lt = record {
      system = old.system;
      system_is = old.system_is;
      equilibrium = subst (λ (asked : List ℤ). IsEquilibrium old.system asked job.gap job.budget x.report)
          (sym (asked-front (first_asked db job) steps s i (omega (arith, lt)))) old.equilibrium;
    }

    system : System
    system = takes.makes.system

    in_system : system.elements ≡ components_of db job.job
    in_system = elements_of db (job_at job.job before.t) system known.law known.functions takes.makes.system_is.selected

    t_is : step.report.t ≡ before.t
    t_is =
        let v = valued db before.t known.law known.functions in
        takes.makes.answers.holds.same_temperature ∙ ap (λ (y : System). y.t) (takes.makes.system_is.selected v.0 v.1).1

    asked : (account_in_order before.account system.elements).remains ≡ asked_at (first_asked db job) more (length steps)
    asked = asked_next db job steps before system.elements made.walked in_system
        ∙ sym (asked-front (first_asked db job) steps s (length steps) (omega arith))

    this : IsSolved db job more (length steps) s
    this = record {
      system = system;
      system_is = subst (λ (t : ℕ). IsSystemOf db (path_job_at job t) system) (sym t_is) takes.makes.system_is;
      equilibrium = subst (λ (a : List ℤ). IsEquilibrium system a job.gap job.budget step.report) asked takes.makes.answers;
    }

-- the step behind these stands at the line behind them
pub made_on : (db : Database) (job : PathJob) (steps : List StepText) (before after : WalkState) (step : Stepped) → HasOutcomes db →
    HasMade db job steps before → before.finish ≡ None → Takes db before step after → IsWalk after →
    HasMade db job (steps ++ numbered (before.steps + 1) (line_behind steps) step ∷ []) after
made_on db job steps before after step known made unfinished takes keeps =
    let line : ℕ = line_behind steps in
    record {
      walked = goes_on known.law db job steps before after step line known.functions made.walked unfinished takes keeps;
      solved = subst (λ (j : PathJob). (i : ℕ) (x : StepText) → slice_get (steps ++ numbered (before.steps + 1) line step ∷ []) i ≡ Some x →
          IsSolved db j (steps ++ numbered (before.steps + 1) line step ∷ []) i x) made.walked.same_job
          (solved_on db steps before after step line known (subst (λ (j : PathJob). HasMade db j steps before) (sym made.walked.same_job) made) takes);
      stand = stand-push first_step_line steps (numbered (before.steps + 1) line step) made.stand refl;
    }

-- ---- they are the steps of a path

pub systems_of : (db : Database) (job : PathJob) (steps : List StepText) (walk : WalkState) → HasOutcomes db → HasMade db job steps walk →
    (systems : ℕ → System) × AreSelected db job systems steps
systems_of db job steps walk known made = selects known.law db job steps walk known.functions made.walked

steps_hold : (db : Database) (job : PathJob) (steps : List StepText) (walk : WalkState) (systems : ℕ → System) → Walked db job steps walk →
    AreSelected db job systems steps → StepsHold systems (path_start db job) steps
steps_hold db job [] walk systems walked are = λ i x e. absurd (none_there i x e)
steps_hold db job (s ∷ ss) walk systems walked are =
    subst (λ (start : PathStart). StepsHold systems start (s ∷ ss)) (start_is db job s ss walk walked) (walked.hold systems are)

pub are_steps : (db : Database) (job : PathJob) (steps : List StepText) (walk : WalkState) (systems : ℕ → System) → HasOutcomes db →
    HasMade db job steps walk →
    AreSelected db job systems steps → AreSteps db job systems steps
are_steps db job steps walk systems known made are = record {
  systems_are = λ i x e. subst (λ (y : System). IsSystemOf db (path_job_at job x.report.t) y) (one i x e) (made.solved i x e).system_is;
  hold = steps_hold db job steps walk systems made.walked are;
  equilibria = λ i x e.
      subst (λ (y : System). IsEquilibrium y (asked_at (first_asked db job) steps i) job.gap job.budget x.report)
      (one i x e) (made.solved i x e).equilibrium;
}
  where
    one : (i : ℕ) (x : StepText) (e : slice_get steps i ≡ Some x) → (made.solved i x e).system ≡ systems x.report.t
    one i x e =
        let solved = made.solved i x e in
        selected_once db (job_at job.job x.report.t) solved.system (systems x.report.t)
        known.law known.functions solved.system_is.selected (are i x e)

pub go_on_front : (db : Database) (job : PathJob) (steps : List StepText) (walk : WalkState) → Walked db job steps walk →
    GoOn (path_start db job) (length steps - 1) steps
go_on_front db job [] walk walked = λ i x lt e. absurd (none_there i x e)
go_on_front db job (s ∷ ss) walk walked =
    subst (λ (start : PathStart). GoOn start (length (s ∷ ss) - 1) (s ∷ ss)) (start_is db job s ss walk walked) walked.go_on

-- of a walk without a finish
all_go_on : (db : Database) (job : PathJob) (steps : List StepText) (walk : WalkState) → Walked db job steps walk → walk.finish ≡ None →
    GoOn (start_at job walk) (length steps) steps
all_go_on db job steps walk walked unfinished i x lt e = elim (cases_lt i (length steps - 1)) [
  | inl less ↦ walked.go_on i x less e
  | inr ge ↦
      let same : i ≡ length steps - 1 = omega (arith, ge, lt) in
      subst (λ (f : Option Finish). HasFinish (start_at job walk) f x) unfinished
      (walked.last x (subst (λ (k : ℕ). slice_get steps k ≡ Some x) same e))
]

pub go_on_all : (db : Database) (job : PathJob) (steps : List StepText) (walk : WalkState) → Walked db job steps walk → walk.finish ≡ None →
    GoOn (path_start db job) (length steps) steps
go_on_all db job [] walk walked unfinished = λ i x lt e. absurd (none_there i x e)
go_on_all db job (s ∷ ss) walk walked unfinished =
    subst (λ (start : PathStart). GoOn start (length (s ∷ ss)) (s ∷ ss)) (start_is db job s ss walk walked)
    (all_go_on db job (s ∷ ss) walk walked unfinished)

-- ---- and a walk with a finish is a path

pub no_finish_first : (db : Database) (job : PathJob) (walk : WalkState) (finish : Finish) → Walked db job [] walk → walk.finish ≡ Some finish → ⊥
no_finish_first db job walk finish walked is =
    let none : walk.finish ≡ None = ap (λ (w : WalkState). w.finish) (walked.unmoved refl) in
    cc

pub path_holds : (db : Database) (job : PathJob) (s : StepText) (ss : List StepText) (walk : WalkState) (finish : Finish) (systems : ℕ → System) →
    Walked db job (s ∷ ss) walk → walk.finish ≡ Some finish → AreSelected db job systems (s ∷ ss) →
    PathHolds systems (path_start db job) (path_of job (s ∷ ss) walk finish)
path_holds db job s ss walk finish systems walked is are =
    subst (λ (start : PathStart). PathHolds systems start (path_of job (s ∷ ss) walk finish)) (start_is db job s ss walk walked)
    (ends db job (s ∷ ss) walk finish systems walked is are)

pub balanced : (db : Database) (job : PathJob) (s : StepText) (ss : List StepText) (walk : WalkState) → Walked db job (s ∷ ss) walk → (c : ℕ) →
    at (first_asked db job) c ≡ (at walk.account.solids c +ℤ at walk.account.remains c) +ℤ at walk.account.lost c
balanced db job s ss walk walked c =
    ap (λ (asked : List ℤ). at asked c) (sym (asked_is db job s ss walk walked)) ∙ walked.keeps.account.balanced c
