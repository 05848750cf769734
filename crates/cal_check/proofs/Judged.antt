-- What is known of one report: it has one system, and no rule asks anything behind its last line.
use Rattle.std.proofs.Common.{◌≡◌, ℕ, ◌+◌, ◌<◌, ◌≤◌, List, length, slice_get, Some, Ok, Err, inl, inr, refl, arith, ap, sym, ◌∙◌, subst}
use Rattle.std.proofs.lemmas.Option.{slice_get_within}
use Rattle.temp_fun.specs.Functions.{Functions, AreFunctions}
use Rattle.temp_fun.specs.Outcomes.{SomeOutcome}
use Rattle.tdb_expr.specs.declared.ranged.Ranged.{Ranged}
use Rattle.tdb_expr.specs.Forms.{IsRanged}
use Rattle.tdb_read.specs.Database.{Database}
use Rattle.cef_core.specs.declared.job.Job.{Job}
use Rattle.cef_core.specs.declared.system.System.{System}
use Rattle.cef_report.specs.declared.report.Report.{Report}
use Rattle.cef_report.specs.Spelled.{IsSpelled}
use Rattle.cef_report.specs.Texts.{lines}
use Rattle.cal_select.specs.declared.fault.SystemFault.{SystemFault}
use Rattle.cal_select.specs.Valuations.{Valuation, AreOutcomes}
use Rattle.cal_select.proofs.Valuing.{a_valuation}
use Rattle.eq_cert.specs.declared.rule.CheckRule.{CheckRule}
use Rattle.eq_cert.specs.declared.rule.CheckRule.TheVariants.{Text, Entry, Total, Energy, Tolerance, Gap, Potentials, Tree, Path}
use Rattle.eq_cert.specs.declared.rule.CheckRule.TheVariants as rules_of
use Rattle.eq_cert.specs.Rules.{Keeps, MeetsRules, IsFirstBroken, Precedes, node_line}
use Rattle.eq_cert.proofs.Judging.{lines_of}
use Rattle.eq_cert.proofs.Lines.{lines_within}
use Rattle.cal_check.specs.declared.fault.DocumentFault.{DocumentFault}
use Rattle.cal_check.specs.declared.fault.DocumentFault.TheVariants.{Broken, Memory}
use Rattle.cal_check.specs.declared.fault.DocumentFault.TheVariants as faults
use Rattle.cal_check.specs.Systems.{IsSystemFor, HasSystem, IsRefusedFor, job_of}
use Rattle.cal_check.specs.Faults.{IsFirst, IsFirstRule, IsFirstRefusal}
use Rattle.cal_check.specs.Documents.{IsReportKept, IsReportRefused, IsGiven}
use Rattle.cal_check.specs.Workings.{HasNoSystem, IsReportFault, IsRightReport}

abbrev pub EachHasOutcome : Type 0
EachHasOutcome = (f : Functions) (t : ℕ) (ranged : Ranged) → AreFunctions f → IsRanged ranged → SomeOutcome f t ranged

-- ---- one system

pub valued : (db : Database) (t : ℕ) → EachHasOutcome → AreFunctions db.functions → (outcome : Valuation) × AreOutcomes db.functions t outcome
valued db t law functions = a_valuation db.functions t (λ ranged is. law db.functions t ranged functions is)

pub one_system : (db : Database) (report : Report) (a b : System) → EachHasOutcome → AreFunctions db.functions → IsSystemFor db report a → IsSystemFor db report b → a ≡ b
one_system db report a b law functions first second =
    let v = valued db report.t law functions in
    (first v.0 v.1).1 ∙ sym (second v.0 v.1).1

-- ---- a report that is right

pub all_kept : (db : Database) (first : ℕ) (report : Report) (system : System) → EachHasOutcome → AreFunctions db.functions → IsSystemFor db report system → MeetsRules system report → (line : ℕ) (rule : CheckRule) → IsReportKept db first report line rule
all_kept db first report system law functions is meets line rule k other e given =
    subst (λ (s : System). Keeps s report k rule) (one_system db report system other law functions is given) (meets k rule)

-- ---- a report with a fault

pub refused_first : (db : Database) (first : ℕ) (report : Report) (fault : DocumentFault) → HasNoSystem db (job_of report) fault → IsReportFault db first report fault
refused_first db first report (Broken rule line) is = absurd is
refused_first db first report (faults.System fault) is = (
  first,
  record {
    refused = record { here = refl; refused = record { no_want = is.0; first = is.1 } };
    before = λ k rule lt j system e given. absurd (omega (arith, lt, e));
    given = λ lt. absurd (omega (arith, lt));
  },
)
refused_first db first report Memory is = tt

earlier_kept : (first k j : ℕ) (earlier rule : CheckRule) (line : ℕ) → line ≡ first + k → Precedes (first + j) earlier line rule → Precedes j earlier k rule
earlier_kept first k j earlier rule line e (inl lt) = inl (omega (arith, e, lt))
earlier_kept first k j earlier rule line e (inr same) = inr (omega (arith, e, same.0), same.1)

pub broken_first : (db : Database) (first : ℕ) (report : Report) (system : System) (rule : CheckRule) (line k : ℕ) → EachHasOutcome → AreFunctions db.functions → IsSystemFor db report system → line ≡ first + k →
    IsFirstBroken (Keeps system report) k rule → IsReportFault db first report (Broken rule line)
broken_first db first report system rule line k law functions is e found = record {
  first = record {
    broken = λ kept. found.broken (kept k system e is);
    before = λ n earlier precedes j other at given.
        let moved : Precedes (first + j) earlier line rule = subst (λ (m : ℕ). Precedes m earlier line rule) at precedes in
        subst (λ (s : System). Keeps s report j earlier) (one_system db report system other law functions is given) (found.before j earlier (earlier_kept first k j earlier rule line e moved));
  };
  given = λ lt. (system, is);
}
