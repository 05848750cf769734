-- One more step of a walk.
use Rattle.std.proofs.Common.{◌≡◌, ℕ, zero, suc, ◌+◌, ◌*◌, ◌-◌, ◌<◌, ◌≤◌, List, [], ◌∷◌, ◌++◌, length, refl, sym, ap, ◌∙◌, subst, arith, Option, Some, None, inl, inr, slice_get, replicate}
use Rattle.std.specs.Prelude.{ℤ, pos, ◌+ℤ◌, ◌-ℤ◌, ◌⊎◌}
use Rattle.std.specs.Option.{option_map_or}
use Rattle.std.proofs.lemmas.Int.{ints}
use Rattle.std.proofs.lemmas.List.{length_push}
use Rattle.std.proofs.lemmas.Bool.{cases_lt}
use Rattle.std.proofs.lemmas.Option.{slice_get_within}
use Rattle.cal_math.specs.Sums.{sum_of}
use Rattle.cal_math.specs.Vectors.{at}
use Rattle.cal_scan.specs.Lines.{Word}
use Rattle.cef_core.specs.declared.job.Job.{Job}
use Rattle.cef_core.specs.declared.system.System.{System}
use Rattle.cef_report.specs.Holding.{Holds}
use Rattle.cef_path.specs.declared.finish.Finish.{Finish}
use Rattle.cef_path.specs.declared.path.PathText.{PathText}
use Rattle.cef_path.specs.declared.start.PathStart.{PathStart}
use Rattle.cef_path.specs.declared.step.StepText.{StepText}
use Rattle.cef_path.specs.Finishing.{FinishIs}
use Rattle.cef_path.specs.Ledgers.{solid_total, IsLeft}
use Rattle.cef_path.specs.Paths.{asked_at, IsStep, StepsHold, HasFinish, GoOn, solids_of, lost_of, PathHolds}
use Rattle.temp_fun.specs.Functions.{AreFunctions}
use Rattle.tdb_read.specs.Database.{Database}
use Rattle.cal_select.specs.Chosen.{components_of}
use Rattle.cal_select.specs.Selection.{system_of}
use Rattle.cal_scheil.specs.declared.account.Account.{Account}
use Rattle.cal_scheil.specs.declared.job.PathJob.{PathJob}
use Rattle.cal_scheil.specs.declared.step.Stepped.{Stepped}
use Rattle.cal_scheil.specs.Accounts.{in_order, account_in_order, IsAccount}
use Rattle.cal_scheil.specs.Walks.{IsPathJob, job_at, path_job_at, start_of, WalkState, walk_of, IsWalk}
use Rattle.cal_scheil.specs.Steps.{IsSelected, Moves, Makes, Takes}
use Rattle.cal_scheil.specs.Walked.{numbered, AreSelected, start_at, Walked, WalkBegins, WalkGoesOn, WalkSelects, WalkEnds, path_of}
use Rattle.cal_scheil.specs.Workings.{EachHasOutcome}
use Rattle.cef_path.proofs.Balance.{last_left}
use Rattle.cal_scheil.proofs.Walking.{begun}
use Rattle.cal_scheil.proofs.Numbers.{sum_of-push, zeros_at}
use Rattle.cal_scheil.proofs.Ordering.{in_order_holds, in_own_order}
use Rattle.cal_scheil.proofs.Elements.{valued, selected_once, elements_of}

-- ---- lists with one more at their end

get-front : {A : Type 0} (xs : List A) (y : A) (i : ℕ) → i < length xs → slice_get (xs ++ y ∷ []) i ≡ slice_get xs i
get-front [] y i lt = absurd (omega (arith, lt))
get-front (x ∷ xs) y zero lt = refl
get-front (x ∷ xs) y (suc i) lt = get-front xs y i (omega (arith, lt))

get-end : {A : Type 0} (xs : List A) (y : A) → slice_get (xs ++ y ∷ []) (length xs) ≡ Some y
get-end [] y = refl
get-end (x ∷ xs) y = get-end xs y

some_is : {A : Type 0} (x y : A) (o : Option A) → o ≡ Some x → o ≡ Some y → y ≡ x
some_is x y o a b = cc

-- an index of the longer list is one of the shorter, or its end
cases_push : {A : Type 0} (xs : List A) (y : A) (i : ℕ) (x : A) → slice_get (xs ++ y ∷ []) i ≡ Some x → ((i < length xs) × (slice_get xs i ≡ Some x)) ⊎ ((i ≡ length xs) × (x ≡ y))
cases_push xs y i x e = elim (cases_lt i (length xs)) [
  | inl lt ↦ inl (lt, sym (get-front xs y i lt) ∙ e)
  | inr ge ↦
      let within = slice_get_within (xs ++ y ∷ []) i x e in
      let same : i ≡ length xs = omega (arith, within, ge, length_push xs y) in
      inr (same, some_is y x (slice_get (xs ++ y ∷ []) (length xs)) (get-end xs y) (subst (λ (k : ℕ). slice_get (xs ++ y ∷ []) k ≡ Some x) same e))
]

asked-front : (asked : List ℤ) (steps : List StepText) (s : StepText) (i : ℕ) → i ≤ length steps → asked_at asked (steps ++ s ∷ []) i ≡ asked_at asked steps i
asked-front asked steps s zero le = refl
asked-front asked steps s (suc i) le = ap (λ (o : Option StepText). option_map_or (λ step. step.left) o []) (get-front steps s i (omega (arith, le)))

asked-end : (asked : List ℤ) (steps : List StepText) (s : StepText) (n : ℕ) → n ≡ length steps + 1 → asked_at asked (steps ++ s ∷ []) n ≡ s.left
asked-end asked steps s zero e = absurd (omega (arith, e))
asked-end asked steps s (suc i) e =
    let same : i ≡ length steps = omega (arith, e) in
    ap (λ (k : ℕ). option_map_or (λ (step : StepText). step.left) (slice_get (steps ++ s ∷ []) k) []) same ∙ ap (λ (o : Option StepText). option_map_or (λ step. step.left) o []) (get-end steps s)

asked-first : (asked : List ℤ) → asked_at asked [] 0 ≡ asked
asked-first asked = refl

-- ---- the beginning

none_there : (i : ℕ) (x : StepText) → slice_get [] i ≡ Some x → ⊥
none_there i x e = let lt : i < 0 = slice_get_within [] i x e in omega (arith, lt)

pub begins : WalkBegins
begins db job is = record {
  same_job = refl;
  keeps = begun job is;
  count = refl;
  unmoved = λ e. refl;
  in_system_order = λ some. absurd (some refl);
  asked_first = sym (in_own_order job.job.elements job.asked is.job_is.elements.0.distinct is.one_each);
  selected = λ i x e. absurd (none_there i x e);
  hold = λ systems are i x e. absurd (none_there i x e);
  go_on = λ i x lt e. absurd (none_there i x e);
  last = λ x e. absurd (none_there 0 x e);
  asks = refl;
  solids = λ systems are c lt. zeros_at (length job.asked) c;
  lost = λ c lt. zeros_at (length job.asked) c;
}

-- ---- the account in the system's order

own_order : (account : Account) → IsAccount account → account_in_order account account.names ≡ account
own_order account is =
    let make : List ℤ → List ℤ → List ℤ → List ℤ → Account = λ a s r l. record { names = account.names; asked = a; solids = s; remains = r; lost = l } in
    let names : List Word = account.names in
    let distinct = is.names.distinct in
    ap (λ (xs : List ℤ). make xs (in_order names account.solids names) (in_order names account.remains names) (in_order names account.lost names)) (in_own_order names account.asked distinct is.asked_each)
    ∙ ap (λ (xs : List ℤ). make account.asked xs (in_order names account.remains names) (in_order names account.lost names)) (in_own_order names account.solids distinct is.solids_each)
    ∙ ap (λ (xs : List ℤ). make account.asked account.solids xs (in_order names account.lost names)) (in_own_order names account.remains distinct is.remains_each)
    ∙ ap (λ (xs : List ℤ). make account.asked account.solids account.remains xs) (in_own_order names account.lost distinct is.lost_each)

-- what an account keeps of the steps before
record IsKept (db : Database) (job : PathJob) (steps : List StepText) (finish : Option Finish) (account : Account) : Type 0 where
  pub asked_first : account.asked ≡ in_order job.job.elements job.asked account.names
  pub hold : (systems : ℕ → System) → AreSelected db job systems steps → StepsHold systems (start_of job account.asked) steps
  pub go_on : GoOn (start_of job account.asked) (length steps - 1) steps
  pub last : (step : StepText) → slice_get steps (length steps - 1) ≡ Some step → HasFinish (start_of job account.asked) finish step
  pub asks : account.remains ≡ asked_at account.asked steps (length steps)
  pub solids : (systems : ℕ → System) → AreSelected db job systems steps → (c : ℕ) → c < length account.names → at account.solids c ≡ solids_of systems (start_of job account.asked) steps c
  pub lost : (c : ℕ) → c < length account.names → at account.lost c ≡ lost_of steps c

kept_at_first : (db : Database) (job : PathJob) (order : List Word) → IsKept db job [] None (account_in_order (walk_of job).account order)
kept_at_first db job order = record {
  asked_first = refl;
  hold = λ systems are i x e. absurd (none_there i x e);
  go_on = λ i x lt e. absurd (none_there i x e);
  last = λ x e. absurd (none_there 0 x e);
  asks = refl;
  solids = λ systems are c lt. in_order_holds (λ x. x ≡ pos 0) job.job.elements (replicate (length job.asked) (pos 0)) order refl (zeros_at (length job.asked)) c;
  lost = λ c lt. in_order_holds (λ x. x ≡ pos 0) job.job.elements (replicate (length job.asked) (pos 0)) order refl (zeros_at (length job.asked)) c;
}

kept_in_order : (db : Database) (job : PathJob) (steps : List StepText) (walk : WalkState) (order : List Word) → Walked db job steps walk → order ≡ components_of db job.job →
    IsKept db job steps walk.finish (account_in_order walk.account order)
kept_in_order db job [] walk order walked is =
    subst (λ (w : WalkState). IsKept db job [] w.finish (account_in_order w.account order)) (sym (walked.unmoved refl)) (kept_at_first db job order)
kept_in_order db job (s ∷ ss) walk order walked is =
    let names : walk.account.names ≡ order = walked.in_system_order (λ e. cc) ∙ sym is in
    let same : account_in_order walk.account order ≡ walk.account = subst (λ (ws : List Word). account_in_order walk.account ws ≡ walk.account) names (own_order walk.account walked.keeps.account) in
    subst (λ (a : Account). IsKept db job (s ∷ ss) walk.finish a) (sym same) (record {
      asked_first = walked.asked_first;
      hold = walked.hold;
      go_on = walked.go_on;
      last = walked.last;
      asks = walked.asks;
      solids = walked.solids;
      lost = walked.lost;
    })

-- ---- the step

one_more : (db : Database) (steps : List StepText) (before after : WalkState) (step : Stepped) (line : ℕ) → EachHasOutcome → AreFunctions db.functions
    → Walked db before.job steps before → before.finish ≡ None → Takes db before step after → IsWalk after → Walked db before.job (steps ++ numbered (before.steps + 1) line step ∷ []) after
one_more db steps before after step line law functions walked unfinished takes keeps =
    record {
      same_job = takes.same_job;
      keeps = keeps;
      count = omega (arith, takes.one_more, walked.count, longer);
      unmoved = λ e. let n = ap length e in absurd (omega (arith, n, longer));
      in_system_order = λ some. moves.same_names ∙ in_system;
      asked_first = moves.same_asked ∙ kept.asked_first ∙ ap (in_order job.job.elements job.asked) (sym moves.same_names);
      selected = λ i x e. elim (cases_push steps s i x e) [
        | inl old ↦ walked.selected i x old.1
        | inr new ↦ subst (λ (y : StepText). (other : System) × IsSelected db (job_at job.job y.report.t) other) (sym new.1) (system, subst (λ (t : ℕ). IsSelected db (job_at job.job t) system) (sym t_is) selected)
      ];
      hold = λ systems are. subst (λ (asked : List ℤ). StepsHold systems (start_of job asked) more) (sym moves.same_asked) (steps_hold systems are);
      go_on = subst (λ (asked : List ℤ). GoOn (start_of job asked) (length more - 1) more) (sym moves.same_asked) goes_on;
      last = subst (λ (asked : List ℤ). (x : StepText) → slice_get more (length more - 1) ≡ Some x → HasFinish (start_of job asked) after.finish x) (sym moves.same_asked) last_finish;
      asks = moves.remains_are ∙ sym (asked-end after.account.asked steps s (length more) longer);
      solids = λ systems are c lt.
          let within : c < length account.names = omega (arith, lt, ap length moves.same_names) in
          let add = moves.solids_are c within in
          let old = kept.solids systems (front systems are) c within in
          let here = ap (λ (y : System). solid_total y job.liquid step.report c) (here_is systems are) in
          let sum = sum_of-push (λ (x : StepText). solid_total (systems x.report.t) job.liquid x.report c) steps s in
          omega (arith, ints, add, old, here, sum);
      lost = λ c lt.
          let within : c < length account.names = omega (arith, lt, ap length moves.same_names) in
          let add = moves.lost_are c within in
          let old = kept.lost c within in
          let asked = ap (λ (l : List ℤ). at l c) takes.makes.answers.holds.asked_are in
          let sum = sum_of-push (λ (x : StepText). at x.report.asked c -ℤ at x.report.totals c) steps s in
          omega (arith, ints, add, old, asked, sum);
    }
  where
    job : PathJob
    job = before.job

    system : System
    system = takes.makes.system

    account : Account
    account = account_in_order before.account system.elements

    moves : Moves system job.liquid step.report step.left account after.account
    moves = takes.makes.moves

    selected : IsSelected db (job_at job.job before.t) system
    selected = takes.makes.system_is.selected

    in_system : system.elements ≡ components_of db job.job
    in_system = elements_of db (job_at job.job before.t) system law functions selected

    kept : IsKept db job steps before.finish account
    kept = kept_in_order db job steps before system.elements walked in_system

    t_is : step.report.t ≡ before.t
    t_is =
        let v = valued db before.t law functions in
        takes.makes.answers.holds.same_temperature ∙ ap (λ (y : System). y.t) (selected v.0 v.1).1

    s : StepText
    s = numbered (before.steps + 1) line step

    more : List StepText
    more = steps ++ s ∷ []

    longer : length more ≡ length steps + 1
    longer = length_push steps s

    front : (systems : ℕ → System) → AreSelected db job systems more → AreSelected db job systems steps
    front systems are i x e = are i x (get-front steps s i (slice_get_within steps i x e) ∙ e)

    here_is : (systems : ℕ → System) → AreSelected db job systems more → systems step.report.t ≡ system
    here_is systems are =
        selected_once db (job_at job.job before.t) (systems step.report.t) system law functions
        (subst (λ (t : ℕ). IsSelected db (job_at job.job t) (systems step.report.t)) t_is (are (length steps) s (get-end steps s))) selected

    old_step : (systems : ℕ → System) (i : ℕ) (x : StepText) → i < length steps → IsStep systems (start_of job account.asked) steps i x → IsStep systems (start_of job account.asked) more i x
    old_step systems i x lt is = record {
      number = is.number;
      temperature = is.temperature;
      holds = subst (λ (l : List ℤ). Holds (systems x.report.t) l x.report) (sym (asked-front account.asked steps s i (omega (arith, lt)))) is.holds;
      left = is.left;
      spelled = is.spelled;
    }

    this_step : (systems : ℕ → System) → AreSelected db job systems more → IsStep systems (start_of job account.asked) more (length steps) s
    this_step systems are =
        let asked : asked_at account.asked more (length steps) ≡ account.remains = asked-front account.asked steps s (length steps) (omega arith) ∙ sym kept.asks in
        let above = (walked.keeps.goes_on unfinished).0 in
        let low = walked.keeps.asks.floor_low in
        let count = ap (λ (k : ℕ). k * job.descent) walked.count in
        record {
          number = ap (λ (k : ℕ). k + 1) walked.count;
          temperature = omega (arith, t_is, walked.keeps.temperature, above, low, count);
          holds = subst (λ (l : List ℤ). Holds (systems step.report.t) l step.report) (sym asked) (subst (λ (y : System). Holds y account.remains step.report) (sym (here_is systems are)) takes.makes.answers.holds);
          left = subst (λ (y : System). IsLeft y job.liquid step.report step.left) (sym (here_is systems are)) takes.makes.left_is;
          spelled = takes.makes.answers.spelled;
        }

    steps_hold : (systems : ℕ → System) → AreSelected db job systems more → StepsHold systems (start_of job account.asked) more
    steps_hold systems are i x e = elim (cases_push steps s i x e) [
      | inl old ↦ old_step systems i x old.0 (kept.hold systems (front systems are) i x old.1)
      | inr new ↦ subst (λ (k : ℕ). IsStep systems (start_of job account.asked) more k x) (sym new.0) (subst (λ (y : StepText). IsStep systems (start_of job account.asked) more (length steps) y) (sym new.1) (this_step systems are))
    ]

    goes_on : GoOn (start_of job account.asked) (length more - 1) more
    goes_on i x lt e = elim (cases_push steps s i x e) [
      | inl old ↦ elim (cases_lt i (length steps - 1)) [
        | inl less ↦ kept.go_on i x less old.1
        | inr ge ↦
            let same : i ≡ length steps - 1 = omega (arith, ge, old.0) in
            subst (λ (f : Option Finish). HasFinish (start_of job account.asked) f x) unfinished (kept.last x (subst (λ (k : ℕ). slice_get steps k ≡ Some x) same old.1))
      ]
      | inr new ↦ absurd (omega (arith, lt, new.0, longer))
    ]

    this_finish : HasFinish (start_of job account.asked) after.finish s
    this_finish =
        subst (λ (asked : List ℤ). HasFinish (start_of job asked) after.finish s) moves.same_asked
        (subst (λ (f : Option Finish). FinishIs (start_of job after.account.asked) step.report.t step.left f) (sym takes.same_finish) (subst (λ (t : ℕ). FinishIs (start_of job after.account.asked) t step.left step.finish) (sym t_is) takes.finish_is))

    last_finish : (x : StepText) → slice_get more (length more - 1) ≡ Some x → HasFinish (start_of job account.asked) after.finish x
    last_finish x e = elim (cases_push steps s (length more - 1) x e) [
      | inl old ↦ absurd (omega (arith, old.0, longer))
      | inr new ↦ subst (λ (y : StepText). HasFinish (start_of job account.asked) after.finish y) (sym new.1) this_finish
    ]

pub goes_on : EachHasOutcome → WalkGoesOn
goes_on law db job steps before after step line functions walked unfinished takes keeps =
    subst (λ (j : PathJob). Walked db j (steps ++ numbered (before.steps + 1) line step ∷ []) after) walked.same_job
    (one_more db steps before after step line law functions (subst (λ (j : PathJob). Walked db j steps before) (sym walked.same_job) walked) unfinished takes keeps)

-- ---- the systems and the end

pub selects : EachHasOutcome → WalkSelects
selects law db job steps walk functions walked = (
  λ t. system_of (valued db t law functions).0 db (job_at job.job t),
  λ i x e.
      let some = walked.selected i x e in
      let v = valued db x.report.t law functions in
      subst (λ (y : System). IsSelected db (job_at job.job x.report.t) y) (some.1 v.0 v.1).1 some.1,
)

-- the last of some
record HasLast (steps : List StepText) : Type 0 where
  pub step : StepText
  pub is : slice_get steps (length steps - 1) ≡ Some step

last_is : (steps : List StepText) → 0 < length steps → HasLast steps
last_is [] some = absurd (omega (arith, some))
last_is (s ∷ []) some = record { step = s; is = refl }
last_is (s ∷ t ∷ ss) some =
    let behind = last_is (t ∷ ss) (omega arith) in
    let here : length (s ∷ t ∷ ss) - 1 ≡ suc (length (t ∷ ss) - 1) = omega arith in
    record { step = behind.step; is = subst (λ (k : ℕ). slice_get (s ∷ t ∷ ss) k ≡ Some behind.step) (sym here) behind.is }

some_made : (db : Database) (job : PathJob) (steps : List StepText) (walk : WalkState) (finish : Finish) → Walked db job steps walk → walk.finish ≡ Some finish → 0 < length steps
some_made db job [] walk finish walked is =
    let none : walk.finish ≡ None = ap (λ (w : WalkState). w.finish) (walked.unmoved refl) in
    absurd cc
some_made db job (s ∷ ss) walk finish walked is = omega arith

pub ends : WalkEnds
ends db job steps walk finish systems walked is are =
    let last = last_is steps (some_made db job steps walk finish walked is) in
    let account = walked.keeps.account in
    record {
      same_liquid = refl;
      same_descent = refl;
      same_floor = refl;
      same_stop = refl;
      steps_hold = walked.hold systems are;
      last = last.step;
      is_last = last.is;
      go_on = walked.go_on;
      finish = subst (λ (f : Option Finish). HasFinish (start_at job walk) f last.step) is (walked.last last.step last.is);
      components = (account.solids_each ∙ sym account.asked_each, account.lost_each ∙ sym account.asked_each);
      solids_are = λ c lt. walked.solids systems are c (omega (arith, lt, account.asked_each));
      remains_are = walked.asks ∙ last_left walk.account.asked steps last.step last.is;
      lost_are = λ c lt. walked.lost c (omega (arith, lt, account.asked_each));
    }
