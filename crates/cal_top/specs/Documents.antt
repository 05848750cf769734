-- What `check` replies over a database and a document, and `table` over a document.
use Rattle.std.specs.Prelude.{◌≡◌, ℕ, List}
use Rattle.cal_base.specs.declared.status.Status.{Status}
use Rattle.cal_base.specs.declared.status.Status.TheVariants.{Done, BadSystem, Rejected}
use Rattle.tdb_read.specs.Database.{Database}
use Rattle.cal_select.specs.declared.fault.SystemFault.{SystemFault}
use Rattle.eq_cert.specs.declared.rule.CheckRule.{CheckRule}
use Rattle.path_text.specs.declared.kind.Document.{Document}
use Rattle.cal_table.specs.Tables.{table_of}
use Rattle.cal_check.specs.declared.fault.DocumentFault.TheVariants as unmet
use Rattle.cal_check.specs.Documents.{MeetsAll, IsFirstFault, count_of, DocumentHolds}
use Rattle.cal_refusal.specs.Refusals.{system_line}
use Rattle.cal_refusal.specs.Reports.{accepted_line, report_line}

-- The reply of `check` over a database and a document.
pub data Checked (db : Database) (document : Document) (status : Status) (printed : List ℕ) : Type 0 where
  -- every rule is met, and the document holds
  accepted : MeetsAll db document → DocumentHolds db document → status ≡ Done → printed ≡ accepted_line (count_of document) → Checked db document status printed
  -- this is the first rule that is broken
  broken : (rule : CheckRule) (line : ℕ) → IsFirstFault db document (unmet.Broken rule line) → status ≡ Rejected → printed ≡ report_line line rule →
      Checked db document status printed
  -- before any rule is broken, the database gives no system for a report
  no_system : (fault : SystemFault) → IsFirstFault db document (unmet.System fault) → status ≡ BadSystem → printed ≡ system_line fault →
      Checked db document status printed

-- The reply of `table` over a document.
pub record Tabled (document : Document) (status : Status) (printed : List ℕ) : Type 0 where
  pub done : status ≡ Done
  pub printed_is : printed ≡ table_of document
