-- What a run replies to its words, over files that are told or not, and why: one constructor for each cause.
use Rattle.std.specs.Prelude.{◌≡◌, ℕ, ◌⊎◌, List, [], ◌∷◌, Option, string_bytes}
use Rattle.cal_limits.specs.declared.TheConstants.{MOST_DATABASE_BYTES, MOST_REPORT_BYTES}
use Rattle.cal_base.specs.declared.status.Status.{Status}
use Rattle.cal_base.specs.declared.status.Status.TheVariants.{Usage, ReadFault, TooLong, Memory}
use Rattle.cal_base.specs.Outside.{append_told, AppendsAllBut}
use Rattle.cal_job.specs.declared.order.Order.{Order}
use Rattle.cal_job.specs.declared.order.Order.TheVariants as order
use Rattle.cal_job.specs.declared.request.Request.{Request}
use Rattle.cal_job.specs.declared.request.PathRequest.{PathRequest}
use Rattle.cal_job.specs.declared.request.CheckRequest.{CheckRequest}
use Rattle.cal_job.specs.declared.request.TableRequest.{TableRequest}
use Rattle.cal_job.specs.Saying.{Word, Says}
use Rattle.path_run.specs.Outputs.{PathReplies}
use Rattle.cal_refusal.specs.Refusals.{usage_line, read_line, long_line}
use Rattle.cal_top.specs.Seen.{Seen, File, IsUnread, IsTooLong, AreRead, First}
use Rattle.cal_top.specs.Texts.{OverDatabase, OverDocument}
use Rattle.cal_top.specs.Equilibria.{FromDatabase}
use Rattle.cal_top.specs.Paths.{path_job}
use Rattle.cal_top.specs.Documents.{Checked, Tabled}

-- ---- the files of an order

abbrev pub database_file : List ℕ → File
database_file name = record { name = name; limit = MOST_DATABASE_BYTES }

abbrev pub report_file : List ℕ → File
report_file name = record { name = name; limit = MOST_REPORT_BYTES }

-- the files that an order names, as they are read
abbrev pub files_of : Order → List File
files_of (order.Equilibrium request) = database_file (string_bytes request.database) ∷ []
files_of (order.Scheil path) = database_file (string_bytes path.request.database) ∷ []
files_of (order.Check check) = database_file (string_bytes check.database) ∷ report_file (string_bytes check.report) ∷ []
files_of (order.Table table) = report_file (string_bytes table.report) ∷ []

-- ---- replies

-- The reply to an order over the bytes of its files. No file is judged before all were read.
pub data FromTexts (status : Status) (printed : List ℕ) : Order → List (List ℕ) → Type 0 where
  equilibrium : (request : Request) (bytes : List ℕ) → OverDatabase bytes (λ db. FromDatabase db request) status printed →
      FromTexts status printed (order.Equilibrium request) (bytes ∷ [])
  path : (asked : PathRequest) (bytes : List ℕ) → OverDatabase bytes (λ db. PathReplies db (path_job asked)) status printed →
      FromTexts status printed (order.Scheil asked) (bytes ∷ [])
  check : (asked : CheckRequest) (bytes report : List ℕ) → OverDatabase bytes (λ db. OverDocument report (Checked db)) status printed →
      FromTexts status printed (order.Check asked) (bytes ∷ report ∷ [])
  table : (asked : TableRequest) (report : List ℕ) → OverDocument report Tabled status printed →
      FromTexts status printed (order.Table asked) (report ∷ [])

-- The reply to an order.
pub data FromOrder (seen : Seen) (asked : Order) (status : Status) (printed : List ℕ) : Type 0 where
  -- a file could not be read
  unread : First seen (λ earlier file. IsUnread seen file) 0 (files_of asked) → status ≡ ReadFault → printed ≡ read_line → FromOrder seen asked status printed
  -- a file is too long
  too_long : First seen (IsTooLong seen) 0 (files_of asked) → status ≡ TooLong → printed ≡ long_line → FromOrder seen asked status printed
  -- all were read
  read : (texts : List (List ℕ)) → AreRead seen (files_of asked) texts → FromTexts status printed asked texts → FromOrder seen asked status printed

-- The reply to words.
pub data Replies (seen : Seen) (words : List Word) (status : Status) (printed : List ℕ) : Type 0 where
  -- the words give no order
  usage : ((asked : Order) → ¬ Says words asked) → status ≡ Usage → printed ≡ usage_line → Replies seen words status printed
  -- they give this one
  said : (asked : Order) → Says words asked → FromOrder seen asked status printed → Replies seen words status printed

-- ---- what was appended

-- The run has appended the one text of its reply; without memory it may have appended none.
pub record Replied (seen : Seen) (written written_now : Option (List ℕ)) (words : List Word) (status : Status) : Type 0 where
  pub printed : List ℕ
  pub why : Replies seen words status printed ⊎ ((status ≡ Memory) × (printed ≡ []))
  pub appended : written_now ≡ append_told written printed

-- The run has appended a front of the text of a reply, all but the rest.
pub record RepliedPartly (seen : Seen) (written written_now : Option (List ℕ)) (words : List Word) : Type 0 where
  pub status : Status
  pub printed : List ℕ
  pub rest : List ℕ
  pub why : Replies seen words status printed
  pub appended : AppendsAllBut rest written written_now printed
