-- Replies over the files of an order.
use Rattle.std.proofs.Common.{◌≡◌, ℕ, ◌+◌, ◌≤◌, List, [], ◌∷◌, length, inl, inr, refl, sym, subst, Option, arith}
use Rattle.std.specs.Prelude.{◌⊎◌, string_bytes}
use Rattle.cal_base.specs.declared.status.Status.{Status}
use Rattle.cal_base.specs.Outside.{Files, Rose, Raised, LacksFile}
use Rattle.cal_job.specs.declared.order.Order.{Order}
use Rattle.cal_job.specs.declared.order.Order.TheVariants as order
use Rattle.cal_job.specs.declared.request.CheckRequest.{CheckRequest}
use Rattle.cal_job.specs.declared.request.PathRequest.{PathRequest}
use Rattle.cal_job.specs.Saying.{Word, Says}
use Rattle.tdb_read.specs.Database.{Database}
use Rattle.path_text.specs.declared.kind.Document.{Document}
use Rattle.cal_scheil.specs.declared.job.PathJob.{PathJob}
use Rattle.path_run.specs.Outputs.{PathReplies, PathPrinted, PathPrintedPartly}
use Rattle.cal_top.specs.declared.reply.Reply.{Reply}
use Rattle.cal_top.specs.declared.loaded.Loaded.{Loaded}
use Rattle.cal_top.specs.declared.answer.Answer.{Answer}
use Rattle.cal_top.specs.declared.answer.Answer.TheVariants as answers
use Rattle.cal_top.specs.declared.answer.PathAsked.{PathAsked}
use Rattle.cal_top.specs.Seen.{Seen, seen, File, IsUnread, IsTooLong, AreBytesOf, AreRead, none, more, First, here, behind}
use Rattle.cal_top.specs.Texts.{Replying, OverDatabase, bad_database, database, OverDocument, no_document}
use Rattle.cal_top.specs.Paths.{path_job}
use Rattle.cal_top.specs.Replies.{files_of, database_file, report_file, FromTexts, path, check, FromOrder, unread, too_long, read, Replies, said, Replied, RepliedPartly}
use Rattle.cal_top.specs.Loading.{AreLoaded, IsUnreadReply, IsTooLongReply, IsLoaded}
use Rattle.cal_top.specs.Opening.{IsBadDatabase, IsNoDocument}
use Rattle.cal_top.specs.Answers.{Begins, IsPathReply, IsSaid, IsAnswer, IsJudged, IsSecond}
use Rattle.cal_top.proofs.Counting.{rose_later, raised_twice}

pub loaded_is : (told : Seen) (file : File) (found loaded : Loaded) → found ≡ loaded → IsLoaded told file found → IsLoaded told file loaded
loaded_is told file found loaded same is = subst (λ (l : Loaded). IsLoaded told file l) same is

-- ---- the first file

pub first_refused : (told : Seen) (asked : Order) (file : File) (files : List File) (reply : Reply) → files_of asked ≡ file ∷ files
    → IsUnreadReply told file reply ⊎ IsTooLongReply told file reply → FromOrder told asked reply.status reply.text.items
first_refused told asked file files reply same (inl refusal) =
    unread (subst (λ (fs : List File). First told (λ earlier f. IsUnread told f) 0 fs) (sym same) (here 0 file files refusal.unread)) refusal.status refusal.text
first_refused told asked file files reply same (inr refusal) =
    too_long (subst (λ (fs : List File). First told (IsTooLong told) 0 fs) (sym same) (here 0 file files refusal.too_long)) refusal.status refusal.text

-- the reply over the bytes of the one file
pub over_one : (told : Seen) (asked : Order) (file : File) (bytes : List ℕ) (status : Status) (printed : List ℕ) → files_of asked ≡ file ∷ []
    → AreBytesOf told file bytes → FromTexts status printed asked (bytes ∷ []) → FromOrder told asked status printed
over_one told asked file bytes status printed same are over =
    read (bytes ∷ []) (subst (λ (fs : List File). AreRead told fs (bytes ∷ [])) (sym same) (more file [] bytes [] are none)) over

-- ---- the second file

-- what was read stays so, however the counts go on
still : (told : Option Files) (f g h a b d : ℕ) (f2 g2 : ℕ) (file : File) (bytes : List ℕ) → AreBytesOf (seen told f g a b) file bytes → AreBytesOf (seen told h f2 d g2) file bytes
still told f g h a b d f2 g2 file bytes are = record { told_are = are.told_are; there = are.there; short = are.short }

unread_later : (told : Option Files) (f0 f1 f2 g0 g1 g2 : ℕ) (file : File) → f0 ≤ f1 → IsUnread (seen told f1 f2 g1 g2) file → IsUnread (seen told f0 f2 g0 g2) file
unread_later told f0 f1 f2 g0 g1 g2 file up (inl rose) = inl (rose_later f0 f1 f2 rose up)
unread_later told f0 f1 f2 g0 g1 g2 file up (inr lacks) = inr lacks

long_later : (told : Option Files) (f0 f1 f2 g0 g1 g2 n : ℕ) (file : File) → Raised g0 g1 n → IsTooLong (seen told f1 f2 g1 g2) 0 file → IsTooLong (seen told f0 f2 g0 g2) (0 + n) file
long_later told f0 f1 f2 g0 g1 g2 n file raised long = record {
  longer = long.longer;
  read_on =
      let same : n + (0 + (file.limit + 1)) ≡ (0 + n) + (file.limit + 1) = omega arith in
      subst (λ (k : ℕ). Raised g0 g2 k) same (raised_twice g0 g1 g2 n (0 + (file.limit + 1)) raised long.read_on);
}

pub second : (told : Option Files) (f0 f1 f2 g0 g1 g2 : ℕ) (asked : CheckRequest) (bytes : List ℕ) (reply : Reply) → f0 ≤ f1
    → AreLoaded (seen told f0 f1 g0 g1) (database_file (string_bytes asked.database)) bytes
    → IsSecond (seen told f1 f2 g1 g2) (string_bytes asked.report) bytes reply
    → FromOrder (seen told f0 f2 g0 g2) (order.Check asked) reply.status reply.text.items
second told f0 f1 f2 g0 g1 g2 asked bytes reply up first (inl (inl refusal)) =
    let file = report_file (string_bytes asked.report) in
    let before = database_file (string_bytes asked.database) in
    unread
    (behind 0 before (file ∷ []) bytes (still told f0 f1 f0 g0 g1 g0 f2 g2 before bytes first.are)
    (here (0 + length bytes) file [] (unread_later told f0 f1 f2 g0 g1 g2 file up refusal.unread)))
    refusal.status refusal.text
second told f0 f1 f2 g0 g1 g2 asked bytes reply up first (inl (inr refusal)) =
    let file = report_file (string_bytes asked.report) in
    let before = database_file (string_bytes asked.database) in
    too_long
    (behind 0 before (file ∷ []) bytes (still told f0 f1 f0 g0 g1 g0 f2 g2 before bytes first.are)
    (here (0 + length bytes) file [] (long_later told f0 f1 f2 g0 g1 g2 (length bytes) file first.given refusal.too_long)))
    refusal.status refusal.text
second told f0 f1 f2 g0 g1 g2 asked bytes reply up first (inr judged) =
    let file = report_file (string_bytes asked.report) in
    let before = database_file (string_bytes asked.database) in
    read (bytes ∷ judged.report ∷ [])
    (more before (file ∷ []) bytes (judged.report ∷ []) (still told f0 f1 f0 g0 g1 g0 f2 g2 before bytes first.are)
    (more file [] judged.report [] (still told f1 f2 f0 g1 g2 g0 f2 g2 file judged.report judged.are) none))
    (check asked bytes judged.report judged.over)

-- ---- texts that are refused

pub bad_over : (bytes : List ℕ) (over : Database → Replying) (reply : Reply) → IsBadDatabase bytes reply → OverDatabase bytes over reply.status reply.text.items
bad_over bytes over reply is = bad_database is.line is.rule is.fault is.status is.text

pub no_text : (bytes : List ℕ) (over : Document → Replying) (reply : Reply) → IsNoDocument bytes reply → OverDocument bytes over reply.status reply.text.items
no_text bytes over reply is = no_document is.line is.none is.fault is.status is.text

-- ---- paths

pub begins_reply : (outside : Seen) (asked : PathRequest) (bytes : List ℕ) (answer : Answer) → AreBytesOf outside (database_file (string_bytes asked.request.database)) bytes
    → Begins bytes asked answer → IsPathReply outside asked answer
begins_reply outside asked bytes (answers.Reply reply) are is =
    over_one outside (order.Scheil asked) _ bytes reply.status reply.text.items refl are (path asked bytes (bad_over bytes (λ db. PathReplies db (path_job asked)) reply is))
begins_reply outside asked bytes (answers.Path begun) are is = record { bytes = bytes; are = are; begun = is }

-- what was printed of a path is the reply to the words that ask for it
pub replies_of : (outside : Seen) (words : List Word) (asked : PathAsked) (status : Status) (printed : List ℕ) → IsSaid outside words asked
    → PathReplies asked.db asked.job status printed → Replies outside words status printed
replies_of outside words asked status printed is replies =
    let begun = is.is.begun in
    let of_job : PathReplies asked.db (path_job is.path) status printed = subst (λ (job : PathJob). PathReplies asked.db job status printed) begun.job_is replies in
    said (order.Scheil is.path) is.says
    (over_one outside (order.Scheil is.path) _ is.is.bytes status printed refl is.is.are (path is.path is.is.bytes (database asked.db begun.database of_job)))

pub path_replied : (outside : Seen) (words : List Word) (asked : PathAsked) (status : Status) (old new : Option (List ℕ)) → IsSaid outside words asked
    → PathPrinted asked.db asked.job status old new → Replied outside old new words status
path_replied outside words asked status old new is prints =
    record { printed = prints.printed; why = inl (replies_of outside words asked status prints.printed is prints.why); appended = prints.appended }

pub path_partly : (outside : Seen) (words : List Word) (asked : PathAsked) (old new : Option (List ℕ)) → IsSaid outside words asked
    → PathPrintedPartly asked.db asked.job old new → RepliedPartly outside old new words
path_partly outside words asked old new is prints = record {
  status = prints.status;
  printed = prints.printed;
  rest = prints.rest;
  why = replies_of outside words asked prints.status prints.printed is prints.why;
  appended = prints.appended;
}

-- what words come to that ask for a path
pub follow_answer : (outside : Seen) (words : List Word) (asked : PathRequest) (answer : Answer) → Says words (order.Scheil asked)
    → IsPathReply outside asked answer → IsAnswer outside words answer
follow_answer outside words asked (answers.Reply reply) says is = said (order.Scheil asked) says is
follow_answer outside words asked (answers.Path begun) says is = record { path = asked; says = says; is = is }

pub answer_is : (outside : Seen) (words : List Word) (found answer : Answer) → found ≡ answer → IsAnswer outside words found → IsAnswer outside words answer
answer_is outside words found answer same is = subst (λ (a : Answer). IsAnswer outside words a) same is
