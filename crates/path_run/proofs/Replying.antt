-- What a run printed, from what its parts printed.
use Rattle.std.proofs.Common.{◌≡◌, ℕ, ◌-◌, ◌<◌, List, [], ◌∷◌, ◌++◌, length, refl, sym, ap, ◌∙◌, subst, Option, Some, None, inl, inr}
use Rattle.std.specs.Prelude.{◌⊎◌, ◌≢◌}
use Rattle.cal_base.specs.declared.status.Status.{Status}
use Rattle.cal_base.specs.declared.status.Status.TheVariants.{Done, Usage, BadDatabase, BadSystem, GapNotClosed, Rejected}
use Rattle.cal_base.specs.declared.status.Status.TheVariants.{ReadFault, WriteFault, TooLong, Memory}
use Rattle.cal_base.specs.Outside.{append_told, AppendsAllBut}
use Rattle.cal_scan.specs.Lines.{Word}
use Rattle.cef_path.specs.declared.finish.Finish.{Finish}
use Rattle.cef_path.specs.declared.step.StepText.{StepText}
use Rattle.cef_path.specs.Texts.{finish_text}
use Rattle.tdb_read.specs.Database.{Database}
use Rattle.cal_scheil.specs.declared.fault.StepFault.{StepFault}
use Rattle.cal_scheil.specs.declared.job.PathJob.{PathJob}
use Rattle.cal_scheil.specs.Walks.{WalkState}
use Rattle.cal_scheil.specs.Walked.{path_of}
use Rattle.path_run.specs.Steps.{IsNeverRefused}
use Rattle.path_run.specs.Outputs as outputs
use Rattle.path_run.specs.Outputs.{opened, PrintsPath, PrintsRefusal, PrintsSteps, PathReplies, PathPrinted, PathPrintedPartly}
use Rattle.path_run.specs.Workings.{HasOutcomes, HasMade, PrintedSteps, PrintedStepsPartly, IsStopped, HasText}
use Rattle.path_run.specs.Workings.{PrintsFault, with_text, without_text, PrintsFaultPartly}
use Rattle.path_run.proofs.Texts.{told-twice, all_but-behind, path_is}
use Rattle.path_run.proofs.Making.{systems_of, are_steps, go_on_front, go_on_all, no_finish_first, path_holds, balanced}
use Rattle.path_run.proofs.Spelling.{spelled}
use Rattle.path_run.proofs.Causes.{NamedIfOpen, refuses}

-- ---- whole steps

prints_steps : (db : Database) (job : PathJob) (all : List StepText) (walk : WalkState) → HasOutcomes db → HasMade db job all walk →
    PrintsSteps db job (opened job all)
prints_steps db job all walk known made =
    let systems = systems_of db job all walk known made in
    record {
      systems = systems.0;
      steps = all;
      are_steps = are_steps db job all walk systems.0 known made systems.1;
      go_on = go_on_front db job all walk made.walked;
      printed_is = refl;
    }

pub steps_printed : (db : Database) (job : PathJob) (walk : WalkState) (old new : Option (List ℕ)) → HasOutcomes db →
    PrintedSteps db job walk old new →
    PathPrinted db job Memory old new
steps_printed db job walk old new known printed = record {
  printed = opened job printed.steps;
  why = outputs.steps refl (prints_steps db job printed.steps walk known printed.made);
  appended = printed.appended;
}

pub steps_partly : (db : Database) (job : PathJob) (walk : WalkState) (old new : Option (List ℕ)) → HasOutcomes db →
    PrintedStepsPartly db job walk old new →
    PathPrintedPartly db job old new
steps_partly db job walk old new known printed = record {
  status = Memory;
  printed = opened job printed.steps;
  rest = printed.rest;
  why = outputs.steps refl (prints_steps db job printed.steps walk known printed.made);
  appended = printed.appended;
}

-- ---- a refusal behind them

prints_refusal : (db : Database) (job : PathJob) (names : List Word) (fault : StepFault) (status : Status)
    (text : List ℕ) (old mid : Option (List ℕ)) →
    HasOutcomes db → NamedIfOpen db job names fault → (stopped : IsStopped db job fault old mid) → HasText names job.budget fault status text →
    PrintsRefusal db job status (opened job stopped.printed.steps ++ text)
prints_refusal db job names fault status text old mid known named stopped said =
    let all = stopped.printed.steps in
    let made = stopped.printed.made in
    let systems = systems_of db job all stopped.walk known made in
    record {
      systems = systems.0;
      steps = all;
      are_steps = are_steps db job all stopped.walk systems.0 known made systems.1;
      go_on = go_on_all db job all stopped.walk made.walked stopped.unfinished;
      refusal = text;
      refuses = refuses db job all stopped.walk names fault status text known made named stopped.fault_is said;
      printed_is = refl;
    }

pub fault_printed : (db : Database) (job : PathJob) (names : List Word) (fault : StepFault) (status : Status) (old mid new : Option (List ℕ)) →
    HasOutcomes db → NamedIfOpen db job names fault → IsStopped db job fault old mid → PrintsFault names job.budget fault status mid new →
    PathPrinted db job status old new
fault_printed db job names fault status old mid new known named stopped (with_text text said e) = record {
  printed = opened job stopped.printed.steps ++ text;
  why = outputs.refused (prints_refusal db job names fault status text old mid known named stopped said);
  appended = e ∙ ap (λ (o : Option (List ℕ)). append_told o text) stopped.printed.appended ∙ told-twice old (opened job stopped.printed.steps) text;
}
fault_printed db job names fault status old mid new known named stopped (without_text is e) = record {
  printed = opened job stopped.printed.steps;
  why = outputs.steps is (prints_steps db job stopped.printed.steps stopped.walk known stopped.printed.made);
  appended = e ∙ stopped.printed.appended;
}

pub fault_partly : (db : Database) (job : PathJob) (names : List Word) (fault : StepFault) (old mid new : Option (List ℕ)) →
    HasOutcomes db → NamedIfOpen db job names fault → IsStopped db job fault old mid → PrintsFaultPartly names job.budget fault mid new →
    PathPrintedPartly db job old new
fault_partly db job names fault old mid new known named stopped prints = record {
  status = prints.status;
  printed = opened job stopped.printed.steps ++ prints.text;
  rest = prints.rest;
  why = outputs.refused (prints_refusal db job names fault prints.status prints.text old mid known named stopped prints.has_text);
  appended = all_but-behind old mid new (opened job stopped.printed.steps) prints.text prints.rest stopped.printed.appended prints.appended;
}

-- ---- a whole path

prints_path : (db : Database) (job : PathJob) (all : List StepText) (walk : WalkState) (finish : Finish) → HasOutcomes db → HasMade db job all walk →
    walk.finish ≡ Some finish →
    PrintsPath db job (opened job all ++ finish_text finish walk.account.solids walk.account.remains walk.account.lost)
prints_path db job [] walk finish known made is = absurd (no_finish_first db job walk finish made.walked is)
prints_path db job (s ∷ ss) walk finish known made is =
    let systems = systems_of db job (s ∷ ss) walk known made in
    record {
      systems = systems.0;
      path = path_of job (s ∷ ss) walk finish;
      are_steps = are_steps db job (s ∷ ss) walk systems.0 known made systems.1;
      holds = path_holds db job s ss walk finish systems.0 made.walked is systems.1;
      spelled = spelled db job s ss walk finish known made;
      balanced = λ c lt. balanced db job s ss walk made.walked c;
      printed_is = path_is job s ss (path_of job (s ∷ ss) walk finish) refl refl refl refl refl;
    }

pub finish_printed : (db : Database) (job : PathJob) (walk : WalkState) (finish : Finish) (old mid new : Option (List ℕ)) → HasOutcomes db →
    PrintedSteps db job walk old mid → walk.finish ≡ Some finish →
    new ≡ append_told mid (finish_text finish walk.account.solids walk.account.remains walk.account.lost) → PathPrinted db job Done old new
finish_printed db job walk finish old mid new known printed is e =
    let ending : List ℕ = finish_text finish walk.account.solids walk.account.remains walk.account.lost in
    record {
      printed = opened job printed.steps ++ ending;
      why = outputs.path refl (prints_path db job printed.steps walk finish known printed.made is);
      appended = e ∙ ap (λ (o : Option (List ℕ)). append_told o ending) printed.appended ∙ told-twice old (opened job printed.steps) ending;
    }

pub finish_partly : (db : Database) (job : PathJob) (walk : WalkState) (finish : Finish) (rest : List ℕ) (old mid new : Option (List ℕ)) →
    HasOutcomes db →
    PrintedSteps db job walk old mid → walk.finish ≡ Some finish →
    AppendsAllBut rest mid new (finish_text finish walk.account.solids walk.account.remains walk.account.lost) → PathPrintedPartly db job old new
finish_partly db job walk finish rest old mid new known printed is so =
    let ending : List ℕ = finish_text finish walk.account.solids walk.account.remains walk.account.lost in
    record {
      status = Done;
      printed = opened job printed.steps ++ ending;
      rest = rest;
      why = outputs.path refl (prints_path db job printed.steps walk finish known printed.made is);
      appended = all_but-behind old mid new (opened job printed.steps) ending rest printed.appended so;
    }

-- ---- where no step is refused

done_or_memory : (db : Database) (job : PathJob) (status : Status) (printed : List ℕ) → IsNeverRefused db job → PathReplies db job status printed →
    (status ≡ Done) ⊎ (status ≡ Memory)
done_or_memory db job status printed never (outputs.path is why) = inl is
done_or_memory db job status printed never (outputs.steps is why) = inr is
done_or_memory db job status printed never (outputs.refused why) =
    absurd (never why.systems why.steps status why.refusal why.are_steps why.go_on why.refuses)

is_write_fault : (status : Status) → (status ≡ WriteFault) ⊎ (status ≢ WriteFault)
is_write_fault WriteFault = inl refl
is_write_fault Done = inr (λ e. cc)
is_write_fault Usage = inr (λ e. cc)
is_write_fault BadDatabase = inr (λ e. cc)
is_write_fault BadSystem = inr (λ e. cc)
is_write_fault GapNotClosed = inr (λ e. cc)
is_write_fault Rejected = inr (λ e. cc)
is_write_fault ReadFault = inr (λ e. cc)
is_write_fault TooLong = inr (λ e. cc)
is_write_fault Memory = inr (λ e. cc)

pub complete : (db : Database) (job : PathJob) (status : Status) (old new : Option (List ℕ)) (Fault : Type 0) → IsNeverRefused db job → ¬ Fault →
    (status ≡ WriteFault → Fault) → (status ≢ WriteFault → PathPrinted db job status old new) → (status ≡ Done) ⊎ (status ≡ Memory)
complete db job status old new Fault never no_fault write replied = elim (is_write_fault status) [
  | inl is ↦ absurd (no_fault (write is))
  | inr fine ↦ let p = replied fine in done_or_memory db job status p.printed never p.why
]
