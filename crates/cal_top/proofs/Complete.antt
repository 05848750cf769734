-- Where no cause of a refusal stands and no count rose, a run is done or without memory.
use Rattle.std.proofs.Common.{◌≡◌, ℕ, ◌+◌, ◌*◌, ◌≤◌, List, [], ◌∷◌, length, map, subst, sym, ◌∙◌, arith, inl, inr, refl, Option, Some, None, ap}
use Rattle.std.specs.Prelude.{◌⊎◌, string_bytes, ℤ, pos, Err}
use Rattle.cal_base.specs.declared.status.Status.{Status}
use Rattle.cal_base.specs.declared.status.Status.TheVariants.{Done, Memory}
use Rattle.cal_base.specs.Outside.{Files, TellsFile, LacksFile, Rose}
use Rattle.cal_job.specs.declared.order.Order.{Order}
use Rattle.cal_job.specs.declared.order.Order.TheVariants as order
use Rattle.cal_job.specs.declared.request.Request.{Request}
use Rattle.cal_job.specs.declared.request.PathRequest.{PathRequest}
use Rattle.cal_job.specs.declared.request.CheckRequest.{CheckRequest}
use Rattle.cal_job.specs.declared.request.TableRequest.{TableRequest}
use Rattle.cal_job.specs.Saying.{Word, Says}
use Rattle.cal_job.proofs.Commands.{Says_one}
use Rattle.cef_core.specs.declared.system.System.{System}
use Rattle.cef_report.specs.Feasibility.{IsFeasible}
use Rattle.tdb_read.specs.Database.{Database}
use Rattle.tdb_read.specs.Folding.{IsDatabase}
use Rattle.tdb_read.specs.Outcomes.{OneDatabase, DatabaseOrFault}
use Rattle.cal_select.specs.Selection.{system_of}
use Rattle.cal_select.specs.Causes.{causes, Answers}
use Rattle.cal_select.specs.Causes as reasons
use Rattle.path_text.specs.declared.kind.Document.{Document}
use Rattle.path_text.specs.Documents.{OneDocument}
use Rattle.path_run.specs.Outputs.{PathReplies, PathPrinted}
use Rattle.cal_check.specs.Documents.{MeetsAll}
use Rattle.cal_top.specs.declared.answer.PathAsked.{PathAsked}
use Rattle.cal_top.specs.Answers.{IsSaid}
use Rattle.cal_top.specs.Seen.{Seen, File, IsUnread, IsTooLong, AreBytesOf, AreRead, none, more, First, here, behind}
use Rattle.cal_top.specs.Texts.{Replying, OverDatabase, bad_database, database, IsTextOf, OverDocument, no_document, document}
use Rattle.cal_top.specs.Equilibria.{asked_of, IsSelected, FromSystem, infeasible, left_open, answered, FromDatabase, refused, selected}
use Rattle.cal_top.specs.Paths.{path_job}
use Rattle.cal_top.specs.Documents.{Checked, accepted, broken, no_system, Tabled}
use Rattle.cal_top.specs.Replies.{files_of, database_file, report_file, FromTexts, equilibrium, path, check, table, FromOrder, unread, too_long, read, Replies, usage, said}
use Rattle.cal_top.specs.Complete.{Has, HasDatabase, HasDocument, CanClose, CanSolve, CanFollow, HasOutcomes, CanAccept, CanTable, CanDo, IsAnswerable}
use Rattle.cal_top.proofs.Sameness.{can_same}
use Rattle.cal_top.proofs.Replying.{replies_of}
use Rattle.cal_top.proofs.Meeting.{is_accepted, never_refused}

-- the laws of texts
pub record Laws : Type 0 where
  pub one_database : OneDatabase
  pub apart : DatabaseOrFault
  pub one_document : OneDocument

-- ---- files that the library tells

tells_not_lacks : (told : Option Files) (name bytes : List ℕ) → TellsFile told name bytes → LacksFile told name → ⊥
tells_not_lacks None name bytes tells lacks = tells
tells_not_lacks (Some files) name bytes tells lacks = cc

-- the library tells the file, which is not too long
abbrev Told : Seen → File → Type 0
Told outside file = (bytes : List ℕ) × Has outside.told file.limit file.name bytes

data AllTold (outside : Seen) : List File → Type 0 where
  no_file : AllTold outside []
  one_more : (file : File) (files : List File) → Told outside file → AllTold outside files → AllTold outside (file ∷ files)

no_first : (outside : Seen) (IsSo : ℕ → File → Type 0) → ((n : ℕ) (file : File) → Told outside file → IsSo n file → ⊥) → (n : ℕ) (files : List File)
    → AllTold outside files → First outside IsSo n files → ⊥
no_first outside IsSo never n [] has first = elim first [ ]
no_first outside IsSo never n (file ∷ files) (one_more _ _ has rest) (here _ _ _ so) = never n file has so
no_first outside IsSo never n (file ∷ files) (one_more _ _ has rest) (behind _ _ _ bytes are first) = no_first outside IsSo never (n + length bytes) files rest first

never_unread : (outside : Seen) → ¬ Rose outside.faults outside.faults_now → (n : ℕ) (file : File) → Told outside file → IsUnread outside file → ⊥
never_unread outside quiet n file has (inl rose) = quiet rose
never_unread outside quiet n file has (inr lacks) = tells_not_lacks outside.told file.name has.0 has.1.tells lacks

never_long : (outside : Seen) (n : ℕ) (file : File) → Told outside file → IsTooLong outside n file → ⊥
never_long outside n file has long =
    let longer = long.longer has.0 has.1.tells in
    absurd (omega (arith, longer, has.1.short))

all_told : (outside : Seen) (asked : Order) → CanDo outside.told asked → AllTold outside (files_of asked)
all_told outside (order.Equilibrium request) can = one_more _ [] (can.has.bytes, can.has.has) no_file
all_told outside (order.Scheil asked) can = one_more _ [] (can.has.bytes, can.has.has) no_file
all_told outside (order.Check asked) can = one_more _ _ (can.has.bytes, can.has.has) (one_more _ [] (can.has_document.bytes, can.has_document.has) no_file)
all_told outside (order.Table asked) can = one_more _ [] (can.has_document.bytes, can.has_document.has) no_file

-- ---- texts without a fault

over_database : (bytes : List ℕ) (db : Database) (over : Database → Replying) (status : Status) (printed : List ℕ) → Laws → IsDatabase bytes db
    → OverDatabase bytes over status printed → over db status printed
over_database bytes db over status printed laws is (bad_database line rule fault is_status is_printed) = absurd (laws.apart bytes db line rule is fault)
over_database bytes db over status printed laws is (database other of from) =
    subst (λ (d : Database). over d status printed) (laws.one_database bytes other db of is) from

over_document : (bytes : List ℕ) (d : Document) (over : Document → Replying) (status : Status) (printed : List ℕ) → Laws → IsTextOf bytes d
    → OverDocument bytes over status printed → over d status printed
over_document bytes d over status printed laws is (no_document line nothing fault is_status is_printed) = absurd (nothing d is)
over_document bytes d over status printed laws is (document other of from) =
    subst (λ (e : Document). over e status printed) (laws.one_document bytes other d of.spelled is.spelled of.text_is is.text_is) from

-- ---- an equilibrium

from_system : (system : System) (request : Request) (status : Status) (printed : List ℕ) → IsFeasible system (asked_of request system) → system.lists ≤ request.budget
    → FromSystem system request status printed → status ≡ Done
from_system system request status printed feasible enough (infeasible numbers nothing is_status is_printed) = absurd (nothing.infeasible feasible)
from_system system request status printed feasible enough (left_open left is_status) = absurd (omega (arith, enough, left.open_is.budget_low))
from_system system request status printed feasible enough (answered answer is_status) = is_status

from_database : (db : Database) (request : Request) (status : Status) (printed : List ℕ) → CanClose db request → FromDatabase db request status printed → status ≡ Done
from_database db request status printed can (refused fault is is_status is_printed) =
    let cause : reasons.first (causes can.outcome db request.job) ≡ Some fault = is.first can.outcome can.outcomes is.no_want in
    let nothing : reasons.first (causes can.outcome db request.job) ≡ None = ap reasons.first can.no_cause in
    absurd cc
from_database db request status printed can (selected system is from) =
    let one : system ≡ system_of can.outcome db request.job = (is can.outcome can.outcomes).1 in
    from_system (system_of can.outcome db request.job) request status printed can.feasible can.enough (subst (λ (s : System). FromSystem s request status printed) one from)

-- ---- an order

-- the bytes that were read are those that the library tells
told_bytes : (outside : Seen) (limit : ℕ) (name bytes all : List ℕ) → AreBytesOf outside (record { name = name; limit = limit }) bytes → Has outside.told limit name all → all ≡ bytes
told_bytes outside limit name bytes all are has = sym (are.told_are all has.tells)

one_read : (outside : Seen) (file : File) (bytes : List ℕ) → AreRead outside (file ∷ []) (bytes ∷ []) → AreBytesOf outside file bytes
one_read outside file bytes (more _ _ _ _ are rest) = are

second_read : (outside : Seen) (file other : File) (bytes report : List ℕ) → AreRead outside (file ∷ other ∷ []) (bytes ∷ report ∷ []) → AreBytesOf outside other report
second_read outside file other bytes report (more _ _ _ _ are rest) = one_read outside other report rest

first_read : (outside : Seen) (file other : File) (bytes report : List ℕ) → AreRead outside (file ∷ other ∷ []) (bytes ∷ report ∷ []) → AreBytesOf outside file bytes
first_read outside file other bytes report (more _ _ _ _ are rest) = are

is_database : (outside : Seen) (name bytes : List ℕ) (db : Database) → HasDatabase outside.told name db → AreBytesOf outside (database_file name) bytes → IsDatabase bytes db
is_database outside name bytes db has are = subst (λ (b : List ℕ). IsDatabase b db) (told_bytes outside _ name bytes has.bytes are has.has) has.no_fault

is_text : (outside : Seen) (name bytes : List ℕ) (d : Document) → HasDocument outside.told name d → AreBytesOf outside (report_file name) bytes → IsTextOf bytes d
is_text outside name bytes d has are = subst (λ (b : List ℕ). IsTextOf b d) (told_bytes outside _ name bytes has.bytes are has.has) has.text_of

from_texts : (outside : Seen) (asked : Order) (texts : List (List ℕ)) (status : Status) (printed : List ℕ) → Laws → CanDo outside.told asked
    → AreRead outside (files_of asked) texts → FromTexts status printed asked texts → (status ≡ Done) ⊎ (status ≡ Memory)
from_texts outside _ _ status printed laws can are (equilibrium request bytes over) =
    let is = is_database outside _ bytes can.db can.has (one_read outside _ bytes are) in
    inl (from_database can.db request status printed can.close (over_database bytes can.db (λ db. FromDatabase db request) status printed laws is over))
from_texts outside _ _ status printed laws can are (path asked bytes over) =
    let is = is_database outside _ bytes can.db can.has (one_read outside _ bytes are) in
    never_refused can.db (path_job asked) status printed can.never (over_database bytes can.db (λ db. PathReplies db (path_job asked)) status printed laws is over)
from_texts outside _ _ status printed laws can are (check asked bytes report over) =
    let is = is_database outside _ bytes can.db can.has (first_read outside _ _ bytes report are) in
    let text = is_text outside _ report can.document can.has_document (second_read outside _ _ bytes report are) in
    let over_report = over_database bytes can.db (λ db. OverDocument report (Checked db)) status printed laws is over in
    inl (is_accepted can.db can.document status printed can.outcomes can.meets (over_document report can.document (Checked can.db) status printed laws text over_report))
from_texts outside _ _ status printed laws can are (table asked report over) =
    let text = is_text outside _ report can.document can.has_document (one_read outside _ report are) in
    inl (over_document report can.document Tabled status printed laws text over).done

from_order : (outside : Seen) (asked : Order) (status : Status) (printed : List ℕ) → Laws → CanDo outside.told asked → ¬ Rose outside.faults outside.faults_now
    → FromOrder outside asked status printed → (status ≡ Done) ⊎ (status ≡ Memory)
from_order outside asked status printed laws can quiet (unread first is_status is_printed) =
    absurd (no_first outside (λ n file. IsUnread outside file) (never_unread outside quiet) 0 (files_of asked) (all_told outside asked can) first)
from_order outside asked status printed laws can quiet (too_long first is_status is_printed) =
    absurd (no_first outside (IsTooLong outside) (never_long outside) 0 (files_of asked) (all_told outside asked can) first)
from_order outside asked status printed laws can quiet (read texts are from) = from_texts outside asked texts status printed laws can are from

pub finished : (outside : Seen) (words : List Word) (status : Status) (printed : List ℕ) → IsAnswerable outside.told words → Laws → ¬ Rose outside.faults outside.faults_now
    → Replies outside words status printed → (status ≡ Done) ⊎ (status ≡ Memory)
finished outside words status printed is laws quiet (usage nothing is_status is_printed) = absurd (nothing is.asked is.says)
finished outside words status printed is laws quiet (said other says from) =
    from_order outside other status printed laws (can_same outside.told is.asked other (Says_one words other is.asked says is.says) is.can) quiet from

pub path_done : (outside : Seen) (words : List Word) (asked : PathAsked) (status : Status) (old new : Option (List ℕ)) → IsSaid outside words asked
    → IsAnswerable outside.told words → Laws → ¬ Rose outside.faults outside.faults_now → PathPrinted asked.db asked.job status old new → (status ≡ Done) ⊎ (status ≡ Memory)
path_done outside words asked status old new is can laws quiet prints =
    finished outside words status prints.printed can laws quiet (replies_of outside words asked status prints.printed is prints.why)
