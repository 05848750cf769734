-- No reply has the status of a failed write.
use Rattle.std.proofs.Common.{◌≡◌, ℕ, List, inl, inr, refl}
use Rattle.std.specs.Prelude.{◌⊎◌, ◌≢◌}
use Rattle.cal_base.specs.declared.status.Status.{Status}
use Rattle.cal_base.specs.declared.status.Status.TheVariants.{Done, Usage, BadDatabase, BadSystem, GapNotClosed, Rejected, ReadFault, WriteFault, TooLong, Memory}
use Rattle.cal_job.specs.declared.order.Order.{Order}
use Rattle.cal_job.specs.declared.request.Request.{Request}
use Rattle.cal_job.specs.Saying.{Word}
use Rattle.cef_core.specs.declared.system.System.{System}
use Rattle.cef_path.specs.declared.step.StepText.{StepText}
use Rattle.tdb_read.specs.Database.{Database}
use Rattle.path_text.specs.declared.kind.Document.{Document}
use Rattle.cal_scheil.specs.declared.job.PathJob.{PathJob}
use Rattle.path_run.specs.Steps.{RefusesStep}
use Rattle.path_run.specs.Steps as causes
use Rattle.path_run.specs.Outputs.{PathReplies}
use Rattle.path_run.specs.Outputs as outputs
use Rattle.cal_top.specs.Seen.{Seen}
use Rattle.cal_top.specs.Texts.{Replying, OverDatabase, bad_database, database, OverDocument, no_document, document}
use Rattle.cal_top.specs.Equilibria.{FromSystem, infeasible, left_open, answered, FromDatabase, refused, selected}
use Rattle.cal_top.specs.Documents.{Checked, accepted, broken, no_system, Tabled}
use Rattle.cal_top.specs.Replies.{FromTexts, equilibrium, path, check, table, FromOrder, unread, too_long, read, Replies, usage, said}

of_system : (system : System) (request : Request) (status : Status) (printed : List ℕ) → FromSystem system request status printed → status ≢ WriteFault
of_system system request status printed (infeasible numbers nothing is_status is_printed) = λ e. cc
of_system system request status printed (left_open left is_status) = λ e. cc
of_system system request status printed (answered answer is_status) = λ e. cc

of_database : (db : Database) (request : Request) (status : Status) (printed : List ℕ) → FromDatabase db request status printed → status ≢ WriteFault
of_database db request status printed (refused fault is is_status is_printed) = λ e. cc
of_database db request status printed (selected system is from) = of_system system request status printed from

of_step : (db : Database) (job : PathJob) (steps : List StepText) (status : Status) (text : List ℕ) → RefusesStep db job steps status text → status ≢ WriteFault
of_step db job steps status text (causes.no_system fault is is_status is_text) = λ e. cc
of_step db job steps status text (causes.no_liquid system is lacks is_status is_text) = λ e. cc
of_step db job steps status text (causes.infeasible system numbers is shown nothing is_status is_text) = λ e. cc
of_step db job steps status text (causes.left_open system left is open_is feasible is_status is_text) = λ e. cc

of_path : (db : Database) (job : PathJob) (status : Status) (printed : List ℕ) → PathReplies db job status printed → status ≢ WriteFault
of_path db job status printed (outputs.path is_status prints) = λ e. cc
of_path db job status printed (outputs.refused prints) = of_step db job prints.steps status prints.refusal prints.refuses
of_path db job status printed (outputs.steps is_status prints) = λ e. cc

of_checked : (db : Database) (d : Document) (status : Status) (printed : List ℕ) → Checked db d status printed → status ≢ WriteFault
of_checked db d status printed (accepted meets holds is_status is_printed) = λ e. cc
of_checked db d status printed (broken rule line fault is_status is_printed) = λ e. cc
of_checked db d status printed (no_system fault is is_status is_printed) = λ e. cc

of_tabled : (d : Document) (status : Status) (printed : List ℕ) → Tabled d status printed → status ≢ WriteFault
of_tabled d status printed tabled = let done = tabled.done in λ e. cc

over_database : (bytes : List ℕ) (over : Database → Replying) (status : Status) (printed : List ℕ) → ((db : Database) → over db status printed → status ≢ WriteFault)
    → OverDatabase bytes over status printed → status ≢ WriteFault
over_database bytes over status printed never (bad_database line rule fault is_status is_printed) = λ e. cc
over_database bytes over status printed never (database db is from) = never db from

over_document : (bytes : List ℕ) (over : Document → Replying) (status : Status) (printed : List ℕ) → ((d : Document) → over d status printed → status ≢ WriteFault)
    → OverDocument bytes over status printed → status ≢ WriteFault
over_document bytes over status printed never (no_document line nothing fault is_status is_printed) = λ e. cc
over_document bytes over status printed never (document d is from) = never d from

of_texts : (asked : Order) (texts : List (List ℕ)) (status : Status) (printed : List ℕ) → FromTexts status printed asked texts → status ≢ WriteFault
of_texts _ _ status printed (equilibrium request bytes over) = over_database bytes _ status printed (λ db from. of_database db request status printed from) over
of_texts _ _ status printed (path asked bytes over) = over_database bytes _ status printed (λ db from. of_path db _ status printed from) over
of_texts _ _ status printed (check asked bytes report over) =
    over_database bytes _ status printed (λ db from. over_document report _ status printed (λ d checked. of_checked db d status printed checked) from) over
of_texts _ _ status printed (table asked report over) = over_document report _ status printed (λ d from. of_tabled d status printed from) over

of_order : (outside : Seen) (asked : Order) (status : Status) (printed : List ℕ) → FromOrder outside asked status printed → status ≢ WriteFault
of_order outside asked status printed (unread first is_status is_printed) = λ e. cc
of_order outside asked status printed (too_long first is_status is_printed) = λ e. cc
of_order outside asked status printed (read texts are from) = of_texts asked texts status printed from

pub not_write_fault : (outside : Seen) (words : List Word) (status : Status) (printed : List ℕ) → Replies outside words status printed → status ≢ WriteFault
not_write_fault outside words status printed (usage nothing is_status is_printed) = λ e. cc
not_write_fault outside words status printed (said asked says from) = of_order outside asked status printed from

pub is_write_fault : (status : Status) → (status ≡ WriteFault) ⊎ (status ≢ WriteFault)
is_write_fault WriteFault = inl refl
is_write_fault Done = inr (λ e. cc)
is_write_fault Usage = inr (λ e. cc)
is_write_fault BadDatabase = inr (λ e. cc)
is_write_fault BadSystem = inr (λ e. cc)
is_write_fault GapNotClosed = inr (λ e. cc)
is_write_fault Rejected = inr (λ e. cc)
is_write_fault ReadFault = inr (λ e. cc)
is_write_fault TooLong = inr (λ e. cc)
is_write_fault Memory = inr (λ e. cc)
