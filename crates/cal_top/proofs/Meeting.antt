-- A document that meets every rule is accepted, and a path of which no step is refused is not refused.
use Rattle.std.proofs.Common.{◌≡◌, ℕ, ◌<◌, suc, List, Option, Some, None, inl, inr, ap, arith}
use Rattle.std.specs.Prelude.{◌⊎◌}
use Rattle.cal_base.specs.declared.status.Status.{Status}
use Rattle.cal_base.specs.declared.status.Status.TheVariants.{Done, Memory}
use Rattle.cef_report.specs.declared.report.Report.{Report}
use Rattle.tdb_read.specs.Database.{Database}
use Rattle.cal_select.specs.declared.fault.SystemFault.{SystemFault}
use Rattle.cal_select.specs.Causes.{causes, first}
use Rattle.path_text.specs.declared.kind.Document.{Document}
use Rattle.path_text.specs.declared.kind.Document.TheVariants as document
use Rattle.cal_scheil.specs.declared.job.PathJob.{PathJob}
use Rattle.path_run.specs.Steps.{IsNeverRefused}
use Rattle.path_run.specs.Outputs.{PathReplies, path, refused, steps}
use Rattle.cal_check.specs.Systems.{job_of, HasSystem, IsRefusedFor}
use Rattle.cal_check.specs.Paths.{report_line}
use Rattle.cal_check.specs.Documents.{IsReportRefused, IsGiven, AreGiven, IsRefused, MeetsAll}
use Rattle.cal_top.specs.Documents.{Checked, accepted, broken, no_system}
use Rattle.cal_top.specs.Complete.{HasOutcomes}

pub never_refused : (db : Database) (job : PathJob) (status : Status) (printed : List ℕ) → IsNeverRefused db job → PathReplies db job status printed
    → (status ≡ Done) ⊎ (status ≡ Memory)
never_refused db job status printed never (path is_status prints) = inl is_status
never_refused db job status printed never (refused prints) =
    absurd (never prints.systems prints.steps status prints.refusal prints.are_steps prints.go_on prints.refuses)
never_refused db job status printed never (steps is_status prints) = inr is_status

-- a database does not both give a system and refuse it
clash : (db : Database) (report : Report) (fault : SystemFault) → HasOutcomes db → HasSystem db report → IsRefusedFor db report fault → ⊥
clash db report fault outcomes has refusal =
    let v = outcomes report.t in
    let nothing : first (causes v.0 db (job_of report)) ≡ None = ap first (has.1 v.0 v.1).0 in
    let cause : first (causes v.0 db (job_of report)) ≡ Some fault = refusal.first v.0 v.1 refusal.no_want in
    absurd cc

of_report : (db : Database) (n : ℕ) (report : Report) (line : ℕ) (fault : SystemFault) → HasOutcomes db → ((line : ℕ) → IsGiven db n report line)
    → IsReportRefused db n report line fault → ⊥
of_report db n report line fault outcomes given refusal = clash db report fault outcomes (given (suc n) (omega arith)) refusal.refused

never_without : (db : Database) (d : Document) (line : ℕ) (fault : SystemFault) → HasOutcomes db → ((line : ℕ) → AreGiven db d line) → IsRefused db d line fault → ⊥
never_without db (document.One report) line fault outcomes given refusal = of_report db 1 report line fault outcomes given refusal
never_without db (document.Path p) line fault outcomes given refusal =
    of_report db (report_line refusal.step) refusal.step.report line fault outcomes (λ l. given l refusal.i refusal.step refusal.is_step) refusal.refused

pub is_accepted : (db : Database) (d : Document) (status : Status) (printed : List ℕ) → HasOutcomes db → MeetsAll db d → Checked db d status printed → status ≡ Done
is_accepted db d status printed outcomes meets (accepted _ holds is_status is_printed) = is_status
is_accepted db d status printed outcomes meets (broken rule line fault is_status is_printed) = absurd (fault.first.broken (meets.kept line rule))
is_accepted db d status printed outcomes meets (no_system fault is is_status is_printed) =
    absurd (never_without db d is.0 fault outcomes meets.given is.1.refused)
