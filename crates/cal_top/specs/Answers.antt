-- What words come to: a reply, or a path that is to be followed.
use Rattle.std.specs.Prelude.{◌≡◌, ◌⊎◌, ℕ, ◌≤◌, List, string_bytes}
use Rattle.cal_limits.specs.declared.TheConstants.{HIGHEST_TEMPERATURE}
use Rattle.cal_job.specs.declared.order.Order.TheVariants as order
use Rattle.cal_job.specs.declared.request.PathRequest.{PathRequest}
use Rattle.cal_job.specs.Saying.{Word, Says}
use Rattle.tdb_read.specs.Folding.{IsDatabase}
use Rattle.cal_scheil.specs.Walks.{IsPathJob}
use Rattle.cal_top.specs.declared.reply.Reply.{Reply}
use Rattle.cal_top.specs.declared.answer.Answer.{Answer}
use Rattle.cal_top.specs.declared.answer.Answer.TheVariants as answers
use Rattle.cal_top.specs.declared.answer.PathAsked.{PathAsked}
use Rattle.cal_top.specs.Seen.{Seen, AreBytesOf}
use Rattle.cal_top.specs.Texts.{OverDatabase, OverDocument}
use Rattle.cal_top.specs.Documents.{Checked}
use Rattle.cal_top.specs.Paths.{path_job}
use Rattle.cal_top.specs.Replies.{database_file, report_file, FromOrder, Replies}
use Rattle.cal_top.specs.Loading.{IsUnreadReply, IsTooLongReply}
use Rattle.cal_top.specs.Opening.{IsBadDatabase}

-- the path over the database of the bytes
pub record IsBegun (bytes : List ℕ) (path : PathRequest) (begun : PathAsked) : Type 0 where
  pub database : IsDatabase bytes begun.db
  pub reach : HIGHEST_TEMPERATURE ≤ begun.logs
  pub job_is : begun.job ≡ path_job path
  pub keeps : IsPathJob begun.job

abbrev pub Begins : List ℕ → PathRequest → Answer → Type 0
Begins bytes path (answers.Reply reply) = IsBadDatabase bytes reply
Begins bytes path (answers.Path begun) = IsBegun bytes path begun

-- the path over the database of the file that is named
pub record IsAsked (seen : Seen) (path : PathRequest) (asked : PathAsked) : Type 0 where
  pub bytes : List ℕ
  pub are : AreBytesOf seen (database_file (string_bytes path.request.database)) bytes
  pub begun : IsBegun bytes path asked

abbrev pub IsPathReply : Seen → PathRequest → Answer → Type 0
IsPathReply seen path (answers.Reply reply) = FromOrder seen (order.Scheil path) reply.status reply.text.items
IsPathReply seen path (answers.Path begun) = IsAsked seen path begun

-- words that ask for the path
pub record IsSaid (seen : Seen) (words : List Word) (asked : PathAsked) : Type 0 where
  pub path : PathRequest
  pub says : Says words (order.Scheil path)
  pub is : IsAsked seen path asked

abbrev pub IsAnswer : Seen → List Word → Answer → Type 0
IsAnswer seen words (answers.Reply reply) = Replies seen words reply.status reply.text.items
IsAnswer seen words (answers.Path begun) = IsSaid seen words begun

-- ---- the second file of a check

-- the reply over the bytes of a database and of the document that was read
pub record IsJudged (seen : Seen) (name database : List ℕ) (reply : Reply) : Type 0 where
  pub report : List ℕ
  pub are : AreBytesOf seen (report_file name) report
  pub over : OverDatabase database (λ db. OverDocument report (Checked db)) reply.status reply.text.items

-- the refusal of the document's file, or the reply over its bytes
abbrev pub IsSecond : Seen → List ℕ → List ℕ → Reply → Type 0
IsSecond seen name database reply =
    (IsUnreadReply seen (report_file name) reply ⊎ IsTooLongReply seen (report_file name) reply) ⊎ IsJudged seen name database reply
