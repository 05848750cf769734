-- What was printed of the steps of a walk.
use Rattle.std.proofs.Common.{◌≡◌, ℕ, ◌+◌, ◌<◌, ◌≤◌, List, [], ◌∷◌, ◌++◌, length, refl, sym, ap, ◌∙◌, subst, arith, Option, Some, None}
use Rattle.std.specs.Prelude.{Result, Ok, Err, IsErrOf, OnOk}
use Rattle.cal_base.specs.Outside.{Rose, append_told, AppendsAllBut}
use Rattle.cef_path.specs.declared.step.StepText.{StepText}
use Rattle.tdb_read.specs.Database.{Database}
use Rattle.cal_scheil.specs.declared.fault.StepFault.{StepFault}
use Rattle.cal_scheil.specs.declared.job.PathJob.{PathJob}
use Rattle.cal_scheil.specs.Walks.{IsPathJob, WalkState, walk_of}
use Rattle.cal_scheil.specs.Steps.{job_of, IsStepFault}
use Rattle.cal_scheil.specs.Walked.{numbered}
use Rattle.path_run.specs.Outputs.{head_of, opened}
use Rattle.path_run.specs.Workings.{HasOutcomes, HasMade, line_behind, piece, PrintsStep, PrintsStepPartly}
use Rattle.path_run.specs.Workings.{PrintedSteps, PrintedStepsPartly, IsStopped}
use Rattle.path_run.proofs.Texts.{told-none, told-twice, all_but-behind, opened-push, piece_anywhere}
use Rattle.path_run.proofs.Making.{made_first, made_on}

pub printed_none : (db : Database) (job : PathJob) (walk : WalkState) (told : Option (List ℕ)) → HasMade db job [] walk →
    PrintedSteps db job walk told told
printed_none db job walk told made = record { steps = []; made = made; appended = told-none told }

pub print_on : (db : Database) (job : PathJob) (head : List ℕ) (before after : WalkState) (old mid new : Option (List ℕ)) → HasOutcomes db →
    head ≡ head_of job → PrintedSteps db job before old mid → before.finish ≡ None → PrintsStep db head before after mid new →
    PrintedSteps db job after old new
print_on db job head before after old mid new known head_is printed unfinished prints =
    let s : StepText = numbered (before.steps + 1) (line_behind printed.steps) prints.step in
    let count = printed.made.walked.count in
    let here : new ≡ append_told mid (piece (head_of job) (length printed.steps) s) =
    prints.appended
    ∙ ap (λ (t : List ℕ). append_told mid t) (piece_anywhere head before.steps (before.steps + 1) 0 (line_behind printed.steps) prints.step)
    ∙ ap (λ (h : List ℕ). append_told mid (piece h before.steps s)) head_is
    ∙ ap (λ (n : ℕ). append_told mid (piece (head_of job) n s)) count in
    record {
      steps = printed.steps ++ s ∷ [];
      made = made_on db job printed.steps before after prints.step known printed.made unfinished prints.takes prints.keeps;
      appended =
          here
          ∙ ap (λ (o : Option (List ℕ)). append_told o (piece (head_of job) (length printed.steps) s)) printed.appended
          ∙ told-twice old (opened job printed.steps) (piece (head_of job) (length printed.steps) s)
          ∙ ap (λ (t : List ℕ). append_told old t) (sym (opened-push job printed.steps s));
    }

pub print_on_partly : (db : Database) (job : PathJob) (head : List ℕ) (before after : WalkState) (old mid new : Option (List ℕ)) → HasOutcomes db →
    head ≡ head_of job → PrintedSteps db job before old mid → before.finish ≡ None → PrintsStepPartly db head before after mid new →
    PrintedStepsPartly db job after old new
print_on_partly db job head before after old mid new known head_is printed unfinished prints =
    let s : StepText = numbered (before.steps + 1) (line_behind printed.steps) prints.step in
    let count = printed.made.walked.count in
    let here : AppendsAllBut prints.rest mid new (piece (head_of job) (length printed.steps) s) =
    subst (λ (n : ℕ). AppendsAllBut prints.rest mid new (piece (head_of job) n s)) count
    (subst (λ (h : List ℕ). AppendsAllBut prints.rest mid new (piece h before.steps s)) head_is
    (subst (λ (t : List ℕ). AppendsAllBut prints.rest mid new t)
    (piece_anywhere head before.steps (before.steps + 1) 0 (line_behind printed.steps) prints.step) prints.appended)) in
    record {
      steps = printed.steps ++ s ∷ [];
      made = made_on db job printed.steps before after prints.step known printed.made unfinished prints.takes prints.keeps;
      rest = prints.rest;
      appended = subst (λ (t : List ℕ). AppendsAllBut prints.rest old new t) (sym (opened-push job printed.steps s))
          (all_but-behind old mid new (opened job printed.steps) (piece (head_of job) (length printed.steps) s) prints.rest printed.appended here);
    }

-- the next step has no answer
pub stops : (db : Database) (job : PathJob) (fault : StepFault) (before after : WalkState) (old mid new : Option (List ℕ)) →
    PrintedSteps db job before old mid →
    before.finish ≡ None → after ≡ before → new ≡ mid → IsStepFault db (job_of before) before.account fault → IsStopped db job fault old new
stops db job fault before after old mid new printed unfinished same kept is = record {
  walk = before;
  printed = subst (λ (o : Option (List ℕ)). PrintedSteps db job before old o) (sym kept) printed;
  unfinished = unfinished;
  fault_is = is;
}

pub stops_first : (db : Database) (job : PathJob) (fault : StepFault) (told : Option (List ℕ)) → IsPathJob job →
    IsStepFault db job (walk_of job).account fault →
    IsStopped db job fault told told
stops_first db job fault told asks is = record {
  walk = walk_of job;
  printed = printed_none db job (walk_of job) told (made_first db job asks);
  unfinished = refl;
  fault_is = is;
}

-- ---- faults

-- a fault is the same whatever the value would be
pub same_fault : {T U E : Type 0} (e f : E) → IsErrOf {T = T} {E = E} (Err e) f → IsErrOf {T = U} {E = E} (Err e) f
same_fault {T = T} {U = U} {E = E} e f is = ap (failed U) (inner is)
  where
    failed : (V : Type 0) → E → Result V E
    failed V x = Err x

    inner : failed T e ≡ failed T f → e ≡ f
    inner h = cc

pub rose_later : (first before now : ℕ) → first ≤ before → Rose before now → Rose first now
rose_later first before now le rose = omega (arith, le, rose)

pub on_ok : {T E : Type 0} (r : Result T E) (P Q : Type 0) → (P → Q) → OnOk r P → OnOk r Q
on_ok (Ok x) P Q f p = f p
on_ok (Err e) P Q f p = p
