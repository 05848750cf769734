-- Where no cause of a refusal stands.
use Rattle.std.specs.Prelude.{◌≡◌, ℕ, ◌≤◌, List, [], length, Option, string_bytes}
use Rattle.cal_limits.specs.declared.TheConstants.{MOST_DATABASE_BYTES, MOST_REPORT_BYTES}
use Rattle.cal_base.specs.Outside.{Files, TellsFile}
use Rattle.cal_job.specs.declared.order.Order.{Order}
use Rattle.cal_job.specs.declared.order.Order.TheVariants as order
use Rattle.cal_job.specs.declared.request.Request.{Request}
use Rattle.cal_job.specs.declared.request.PathRequest.{PathRequest}
use Rattle.cal_job.specs.declared.request.CheckRequest.{CheckRequest}
use Rattle.cal_job.specs.declared.request.TableRequest.{TableRequest}
use Rattle.cal_job.specs.Saying.{Word, Says}
use Rattle.cef_report.specs.Feasibility.{IsFeasible}
use Rattle.tdb_read.specs.Database.{Database}
use Rattle.tdb_read.specs.Folding.{IsDatabase}
use Rattle.cal_select.specs.Valuations.{Valuation, AreOutcomes}
use Rattle.cal_select.specs.Selection.{system_of}
use Rattle.cal_select.specs.Causes.{causes}
use Rattle.path_text.specs.declared.kind.Document.{Document}
use Rattle.path_run.specs.Steps.{IsNeverRefused}
use Rattle.cal_check.specs.Documents.{MeetsAll}
use Rattle.cal_top.specs.Texts.{IsTextOf}
use Rattle.cal_top.specs.Equilibria.{asked_of}
use Rattle.cal_top.specs.Paths.{path_job}

-- the library tells the bytes of the file, and they are no more than the limit
pub record Has (told : Option Files) (limit : ℕ) (name bytes : List ℕ) : Type 0 where
  pub tells : TellsFile told name bytes
  pub short : length bytes ≤ limit

-- they are a text without a fault, and this is its database
pub record HasDatabase (told : Option Files) (name : List ℕ) (db : Database) : Type 0 where
  pub bytes : List ℕ
  pub has : Has told MOST_DATABASE_BYTES name bytes
  pub no_fault : IsDatabase bytes db

-- they are the text of this document
pub record HasDocument (told : Option Files) (name : List ℕ) (document : Document) : Type 0 where
  pub bytes : List ℕ
  pub has : Has told MOST_REPORT_BYTES name bytes
  pub text_of : IsTextOf bytes document

-- By what gives each ranged text its outcome, no cause stands against the system of the job, the asked totals are feasible, and the
-- budget is at least the number of its lists of counts.
pub record CanClose (db : Database) (request : Request) : Type 0 where
  pub outcome : Valuation
  pub outcomes : AreOutcomes db.functions request.job.t outcome
  pub no_cause : causes outcome db request.job ≡ []
  pub feasible : IsFeasible (system_of outcome db request.job) (asked_of request (system_of outcome db request.job))
  pub enough : (system_of outcome db request.job).lists ≤ request.budget

pub record CanSolve (told : Option Files) (request : Request) : Type 0 where
  pub db : Database
  pub has : HasDatabase told (string_bytes request.database) db
  pub close : CanClose db request

-- no step that the walk may come to is refused
pub record CanFollow (told : Option Files) (path : PathRequest) : Type 0 where
  pub db : Database
  pub has : HasDatabase told (string_bytes path.request.database) db
  pub never : IsNeverRefused db (path_job path)

-- at each temperature each ranged text of the database has an outcome
abbrev pub HasOutcomes : Database → Type 0
HasOutcomes db = (t : ℕ) → (outcome : Valuation) × AreOutcomes db.functions t outcome

-- the document meets every rule
pub record CanAccept (told : Option Files) (check : CheckRequest) : Type 0 where
  pub db : Database
  pub has : HasDatabase told (string_bytes check.database) db
  pub document : Document
  pub has_document : HasDocument told (string_bytes check.report) document
  pub outcomes : HasOutcomes db
  pub meets : MeetsAll db document

pub record CanTable (told : Option Files) (table : TableRequest) : Type 0 where
  pub document : Document
  pub has_document : HasDocument told (string_bytes table.report) document

abbrev pub CanDo : Option Files → Order → Type 0
CanDo told (order.Equilibrium request) = CanSolve told request
CanDo told (order.Scheil path) = CanFollow told path
CanDo told (order.Check check) = CanAccept told check
CanDo told (order.Table table) = CanTable told table

-- The words give an order, and no cause of a refusal stands against it.
pub record IsAnswerable (told : Option Files) (words : List Word) : Type 0 where
  pub asked : Order
  pub says : Says words asked
  pub can : CanDo told asked
