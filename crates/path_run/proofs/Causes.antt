-- The refusal of the step behind those that a walk has made.
use Rattle.std.proofs.Common.{◌≡◌, ℕ, ◌+◌, ◌<◌, ◌≤◌, List, [], ◌∷◌, length, map, refl, sym, ap, ◌∙◌, subst, arith, Option, Some, None, All, inl, inr}
use Rattle.std.specs.Prelude.{ℤ, ◌⊎◌}
use Rattle.std.proofs.lemmas.List.{length-map}
use Rattle.std.proofs.lemmas.Option.{slice_get_within}
use Rattle.cal_base.specs.declared.status.Status.{Status}
use Rattle.cal_scan.specs.Lines.{Word}
use Rattle.cef_core.specs.declared.job.Job.{Job}
use Rattle.cef_core.specs.declared.phase.PhaseAt.{PhaseAt}
use Rattle.cef_core.specs.declared.system.System.{System}
use Rattle.cef_report.specs.declared.entry.Entry.{Entry}
use Rattle.cef_path.specs.declared.step.StepText.{StepText}
use Rattle.tdb_read.specs.Database.{Database}
use Rattle.cal_select.specs.Chosen.{PhaseEntry, components_of, selected}
use Rattle.cal_select.specs.Valuations.{Valuation}
use Rattle.cal_select.specs.Selection.{phases_at, system_of}
use Rattle.eq_sweep.specs.Sweeps.{IsSweep}
use Rattle.eq_solve.specs.declared.fault.Open.{Open}
use Rattle.eq_solve.specs.declared.fault.SolveFault.{SolveFault}
use Rattle.eq_solve.specs.declared.fault.SolveFault.TheVariants as unsolved
use Rattle.eq_solve.specs.Answers.{IsKept, IsFault}
use Rattle.cal_scheil.specs.declared.account.Account.{Account}
use Rattle.cal_scheil.specs.declared.fault.StepFault.{StepFault}
use Rattle.cal_scheil.specs.declared.fault.StepFault.TheVariants.{System as NoSystem, Infeasible, GapNotClosed, Memory}
use Rattle.cal_scheil.specs.declared.job.PathJob.{PathJob}
use Rattle.cal_scheil.specs.Accounts.{account_in_order}
use Rattle.cal_scheil.specs.Walks.{job_at, path_job_at, WalkState}
use Rattle.cal_scheil.specs.Steps.{IsSelected, has_phase, IsSystemOf, IsRefused, LacksLiquid, HasNone, IsStepFault, job_of}
use Rattle.cal_scheil.proofs.Elements.{valued, elements_of}
use Rattle.cal_refusal.specs.Refusals.{system_line, open_text}
use Rattle.path_run.specs.Steps as refusals
use Rattle.path_run.specs.Steps.{job_behind, asked_behind, phase_names, RefusesStep}
use Rattle.path_run.specs.Workings.{HasOutcomes, HasMade, AreNamesOf, FitsNames, HasText}
use Rattle.path_run.proofs.Making.{asked_next, job_next}

-- ---- the names of phases are the same at each temperature

names_at : (outcome : Valuation) (db : Database) (job : Job) (components : List Word) (entries : List PhaseEntry) →
    map (λ (phase : PhaseAt). phase.name) (phases_at outcome db job components entries) ≡ map (λ (e : PhaseEntry). e.0) entries
names_at outcome db job components [] = refl
names_at outcome db job components (e ∷ entries) = ap (λ (names : List Word). e.0 ∷ names) (names_at outcome db job components entries)

names_selected : (db : Database) (job : Job) (system : System) → HasOutcomes db → IsSelected db job system →
    phase_names system ≡ map (λ (e : PhaseEntry). e.0) (selected db job)
names_selected db job system known is =
    let v = valued db job.t known.law known.functions in
    ap phase_names (is v.0 v.1).1 ∙ names_at v.0 db job (components_of db job) (selected db job)

names_are : (db : Database) (job : PathJob) (names : List Word) (t : ℕ) (system : System) → HasOutcomes db → AreNamesOf db job names →
    IsSelected db (job_at job.job t) system → names ≡ phase_names system
names_are db job names t system known named is =
    named.names_are ∙ names_selected db job.job named.system known named.selected ∙ sym (names_selected db (job_at job.job t) system known is)

-- ---- the phases of what is left open have names

kept_within : (system : System) (s : ℕ) (potentials : List ℤ) (entries : List Entry) → All (IsKept system s potentials) entries →
    All (λ entry. entry.phase < length system.phases) entries
kept_within system s potentials entries all k d lt =
    let is = (all k d lt).is_constitution in
    slice_get_within system.phases _ is.phase is.is_phase

fits_open : (db : Database) (job : PathJob) (names : List Word) (t : ℕ) (account : Account) (left : Open) → HasOutcomes db → AreNamesOf db job names →
    HasNone db (path_job_at job t) account (GapNotClosed left) → FitsNames names (GapNotClosed left)
fits_open db job names t account left known named none =
    let open_is = none.unsolved.0 in
    let count : length names ≡ length none.system.phases =
    ap length (names_are db job names t none.system known named none.system_is.selected)
    ∙ length-map none.system.phases (λ (phase : PhaseAt). phase.name) in
    let within = kept_within none.system _ _ left.entries open_is.kept in (
      subst (λ (n : ℕ). left.phase < n) (sym count) open_is.phase_in,
      subst (λ (n : ℕ). All (λ (entry : Entry). entry.phase < n) left.entries) (sym count) within,
    )

fits_at : (db : Database) (job : PathJob) (names : List Word) (t : ℕ) (account : Account) (fault : StepFault) → HasOutcomes db →
    AreNamesOf db job names →
    IsStepFault db (path_job_at job t) account fault → FitsNames names fault
fits_at db job names t account (NoSystem fault) known named is = tt
fits_at db job names t account (Infeasible numbers) known named is = tt
fits_at db job names t account (GapNotClosed left) known named is = fits_open db job names t account left known named is
fits_at db job names t account Memory known named is = tt

pub fits : (db : Database) (job : PathJob) (steps : List StepText) (walk : WalkState) (names : List Word) (fault : StepFault) → HasOutcomes db →
    HasMade db job steps walk → AreNamesOf db job names → IsStepFault db (job_of walk) walk.account fault → FitsNames names fault
fits db job steps walk names fault known made named is =
    fits_at db job names walk.t walk.account fault known named
    (subst (λ (j : PathJob). IsStepFault db (path_job_at j walk.t) walk.account fault) made.walked.same_job is)

-- ---- the refusal

-- these are the names of the phases, if some of them is left open
abbrev pub NamedIfOpen : Database → PathJob → List Word → StepFault → Type 0
NamedIfOpen db job names fault = (left : Open) → fault ≡ GapNotClosed left → AreNamesOf db job names

-- no phase of what is left open has a name among none
pub none_open : (db : Database) (job : PathJob) (fault : StepFault) → FitsNames [] fault → NamedIfOpen db job [] fault
none_open db job fault fits left is =
    let none : FitsNames [] (GapNotClosed left) = subst (FitsNames []) is fits in
    absurd (omega (arith, none.0))

-- what the next step asks is what stands in the clauses
asked_at_none : (db : Database) (job : PathJob) (steps : List StepText) (walk : WalkState) (system : System) → HasOutcomes db →
    HasMade db job steps walk →
    IsSystemOf db (job_behind job steps) system → (fault : SolveFault) →
    IsFault system (IsSweep system.phases) (account_in_order walk.account system.elements).remains job.gap job.budget fault →
    IsFault system (IsSweep system.phases) (asked_behind db job steps) job.gap job.budget fault
asked_at_none db job steps walk system known made is fault why =
    let in_system = elements_of db (job_behind job steps).job system known.law known.functions is.selected in
    subst (λ (asked : List ℤ). IsFault system (IsSweep system.phases) asked job.gap job.budget fault)
    (asked_next db job steps walk system.elements made.walked in_system) why

refuses_behind : (db : Database) (job : PathJob) (steps : List StepText) (walk : WalkState) (names : List Word) (fault : StepFault) (status : Status)
    (text : List ℕ) → HasOutcomes db → HasMade db job steps walk → NamedIfOpen db job names fault →
    IsStepFault db (job_behind job steps) walk.account fault → HasText names job.budget fault status text → RefusesStep db job steps status text
refuses_behind db job steps walk names (NoSystem fault) status text known made named (inl cause) said = refusals.no_system fault cause said.0 said.1
refuses_behind db job steps walk names (NoSystem fault) status text known made named (inr cause) said =
    refusals.no_liquid cause.system cause.selected cause.no_liquid said.0 (said.1 ∙ ap system_line cause.fault_is)
refuses_behind db job steps walk names (Infeasible numbers) status text known made named cause said =
    let why = asked_at_none db job steps walk cause.system known made cause.system_is (unsolved.Infeasible numbers) cause.unsolved in
    refusals.infeasible cause.system numbers.items cause.system_is why.0 why.1 said.0 said.1
refuses_behind db job steps walk names (GapNotClosed left) status text known made named cause said =
    let why = asked_at_none db job steps walk cause.system known made cause.system_is (unsolved.GapNotClosed left) cause.unsolved in
    let same = names_are db job names (job_behind job steps).job.t cause.system known (named left refl) cause.system_is.selected in
    refusals.left_open cause.system left cause.system_is why.0 why.1 said.0 (said.1 ∙ ap (λ (all : List Word). open_text all job.budget left) same)
refuses_behind db job steps walk names Memory status text known made named cause said = absurd said

pub refuses : (db : Database) (job : PathJob) (steps : List StepText) (walk : WalkState) (names : List Word) (fault : StepFault) (status : Status)
    (text : List ℕ) → HasOutcomes db → HasMade db job steps walk → NamedIfOpen db job names fault →
    IsStepFault db (job_of walk) walk.account fault → HasText names job.budget fault status text → RefusesStep db job steps status text
refuses db job steps walk names fault status text known made named is said =
    refuses_behind db job steps walk names fault status text known made named
    (subst (λ (j : PathJob). IsStepFault db j walk.account fault) (job_next db job steps walk made.walked) is) said
