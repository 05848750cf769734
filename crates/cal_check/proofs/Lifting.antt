-- From the faults of a step to those of its path.
use Rattle.std.proofs.Common.{◌≡◌, ℕ, zero, suc, ◌+◌, ◌<◌, ◌≤◌, List, length, slice_get, Some, refl, arith, ap, sym, ◌∙◌, subst, inl, inr, Option}
use Rattle.std.specs.Prelude.{◌⊎◌}
use Rattle.std.proofs.lemmas.Bool.{cases_lt}
use Rattle.std.proofs.lemmas.Option.{slice_get_within}
use Rattle.temp_fun.specs.Functions.{AreFunctions}
use Rattle.tdb_read.specs.Database.{Database}
use Rattle.cef_core.specs.declared.system.System.{System}
use Rattle.cef_report.specs.declared.report.Report.{Report}
use Rattle.cef_report.specs.Spelled.{IsSpelled}
use Rattle.cef_report.specs.Texts.{lines}
use Rattle.cef_path.specs.declared.step.StepText.{StepText}
use Rattle.cef_path.specs.declared.path.PathText.{PathText}
use Rattle.cef_path.specs.Ledgers.{IsLeft}
use Rattle.cef_path.specs.Spelled.{IsSpelledPath, IsSpelledStep}
use Rattle.cal_select.specs.declared.fault.SystemFault.{SystemFault}
use Rattle.eq_cert.specs.declared.rule.CheckRule.{CheckRule}
use Rattle.eq_cert.specs.declared.rule.CheckRule.TheVariants as kinds
use Rattle.eq_cert.specs.Rules.{Keeps, IsFirstBroken, Precedes, node_line}
use Rattle.eq_cert.proofs.Judging.{lines_of}
use Rattle.eq_cert.proofs.Lines.{lines_within}
use Rattle.eq_cert.proofs.Picks.{all_at}
use Rattle.cal_check.specs.declared.fault.DocumentFault.{DocumentFault}
use Rattle.cal_check.specs.declared.fault.DocumentFault.TheVariants as faults
use Rattle.cal_check.specs.Paths.{HasLiquid, left_line, report_line, finish_line, start_of}
use Rattle.cal_check.specs.Systems.{IsSystemFor, HasSystem}
use Rattle.cal_check.specs.Documents.{IsReportKept, IsReportRefused, IsGiven, IsKeptInStep, IsKeptInPath, IsRefusedInPath, AreGivenInPath}
use Rattle.cal_check.specs.Workings.{AtStep, AreRightBefore, IsRightStep, IsStepFault, IsPathFault}
use Rattle.cal_check.proofs.Judged.{EachHasOutcome, all_kept, one_system}
use Rattle.cal_check.proofs.Standing.{behind, ahead, apart}

-- no rule of a report asks anything behind its last line
pub kept_behind : (s : System) (r : Report) (k : ℕ) (rule : CheckRule) → IsSpelled r → length (lines r) ≤ k → Keeps s r k rule
kept_behind s r k kinds.Text spelled le = tt
kept_behind s r k kinds.System spelled le = let all = lines_of r spelled in ((λ e. absurd (omega (arith, le, all, e))), (λ e. absurd (omega (arith, le, all, e))))
kept_behind s r k kinds.Entry spelled le =
    let all = lines_of r spelled in
    λ j e entry at. absurd (omega (arith, le, all, e, slice_get_within r.entries j entry at))
kept_behind s r k kinds.Total spelled le = let all = lines_of r spelled in λ e. absurd (omega (arith, le, all, e))
kept_behind s r k kinds.Energy spelled le = let all = lines_of r spelled in λ e. absurd (omega (arith, le, all, e))
kept_behind s r k kinds.Tolerance spelled le = let all = lines_of r spelled in λ e. absurd (omega (arith, le, all, e))
kept_behind s r k kinds.Gap spelled le = let all = lines_of r spelled in λ e. absurd (omega (arith, le, all, e))
kept_behind s r k kinds.Potentials spelled le = let all = lines_of r spelled in λ e. absurd (omega (arith, le, all, e))
kept_behind s r k kinds.Tree spelled le =
    let all = lines_of r spelled in
    λ p place e phase tree is_phase is_tree node rest box at stands. absurd (omega (arith, le, all, e, at, lines_within r.trees p tree is_tree))
kept_behind s r k kinds.Path spelled le = tt

long : (r : Report) → IsSpelled r → 13 ≤ length (lines r)
long r spelled = omega (arith, lines_of r spelled)

-- ---- lines that are not the step's

kept_past : (db : Database) (path : PathText) (i : ℕ) (s : StepText) (line : ℕ) (rule : CheckRule) → IsSpelled s.report → left_line s < line → IsKeptInStep db path i s line rule
kept_past db path i s line rule spelled past =
    let some = long s.report spelled in
    record {
      report = λ k system e given. kept_behind system s.report k rule spelled (omega (arith, past, e));
      head = λ is. record {
        next = λ e. absurd (omega (arith, past, e));
        temperature = λ e. absurd (omega (arith, past, e, some));
        lattice = λ e. absurd (omega (arith, past, e, some));
        elements = λ e. absurd (omega (arith, past, e, some));
        phases = λ e. absurd (omega (arith, past, e, some));
        asked = λ e. absurd (omega (arith, past, e, some));
      };
      left = λ is e. absurd (omega (arith, past, e));
    }

kept_front : (db : Database) (path : PathText) (i : ℕ) (s : StepText) (line : ℕ) (rule : CheckRule) → line < s.line → IsKeptInStep db path i s line rule
kept_front db path i s line rule front = record {
  report = λ k system e given. absurd (omega (arith, front, e));
  head = λ is. record {
    next = λ e. absurd (omega (arith, front, e));
    temperature = λ e. absurd (omega (arith, front, e));
    lattice = λ e. absurd (omega (arith, front, e));
    elements = λ e. absurd (omega (arith, front, e));
    phases = λ e. absurd (omega (arith, front, e));
    asked = λ e. absurd (omega (arith, front, e));
  };
  left = λ is e. absurd (omega (arith, front, e));
}

-- ---- a step that is right keeps every rule at every line

pub right_kept : (db : Database) (path : PathText) (i : ℕ) (s : StepText) (line : ℕ) (rule : CheckRule) → EachHasOutcome → AreFunctions db.functions → IsRightStep db path i s → IsKeptInStep db path i s line rule
right_kept db path i s line rule law functions right = record {
  report = all_kept db (report_line s) s.report right.system law functions right.report.given right.report.meets line rule;
  head = λ is. record {
    next = λ e. right.next;
    temperature = λ e. right.head.temperature;
    lattice = λ e. right.head.lattice;
    elements = λ e. right.head.elements;
    phases = λ e. right.head.phases;
    asked = λ e. right.head.asked;
  };
  left = λ is e system given.
      subst (λ (x : System). IsLeft x path.liquid s.report s.left)
      (one_system db s.report right.system system law functions right.report.given given) right.left;
}

-- ---- from the step to its path

module _ (db : Database) (path : PathText) (law : EachHasOutcome) (functions : AreFunctions db.functions) (spelled : IsSpelledPath path) (liquid : HasLiquid path)
    (i : ℕ) (s : StepText) (at_i : slice_get path.steps i ≡ Some s) (before : AreRightBefore db path i) where
  spelled_step : IsSpelled s.report
  spelled_step = (all_at IsSpelledStep path.steps i s spelled.steps at_i).report

  same_step : (t : StepText) → slice_get path.steps i ≡ Some t → s ≡ t
  same_step t e = let both : Some s ≡ Some t = sym at_i ∙ e in cc

  -- what is kept of the step up to its last line is kept of the path
  kept : (line : ℕ) (rule : CheckRule) → line ≤ left_line s → IsKeptInStep db path i s line rule → IsKeptInPath db path line rule
  kept line rule within here = record {
    head = λ is e. liquid;
    steps = λ j t e. elim (cases_lt j i) [
      | inl less ↦ right_kept db path j t line rule law functions (before j less t e)
      | inr le ↦ elim (cases_lt i j) [
        | inl more ↦ kept_front db path j t line rule (omega (arith, within, apart 6 path.steps i j s t spelled.stand at_i e more))
        | inr other ↦
            let same : i ≡ j = omega (arith, le, other) in
            let this : s ≡ t = same_step t (subst (λ (k : ℕ). slice_get path.steps k ≡ Some t) (sym same) e) in
            subst (λ (k : ℕ). IsKeptInStep db path k t line rule) same (subst (λ (x : StepText). IsKeptInStep db path i x line rule) this here)
      ]
    ];
    end = λ is.
        let front = ahead 6 path.steps i s spelled.stand at_i in
        record {
          finish = λ e. absurd (omega (arith, front, within, e));
          solids = λ e. absurd (omega (arith, front, within, e));
          remains = λ e. absurd (omega (arith, front, within, e));
          lost = λ e. absurd (omega (arith, front, within, e));
        };
  }

  given : (line : ℕ) → line ≤ left_line s → IsGiven db (report_line s) s.report line → AreGivenInPath db path line
  given line within here j t e lt = elim (cases_lt j i) [
    | inl less ↦ let right = before j less t e in (right.system, right.report.given)
    | inr le ↦ elim (cases_lt i j) [
      | inl more ↦ absurd (omega (arith, within, lt, apart 6 path.steps i j s t spelled.stand at_i e more))
      | inr other ↦
          let same : i ≡ j = omega (arith, le, other) in
          let this : s ≡ t = same_step t (subst (λ (k : ℕ). slice_get path.steps k ≡ Some t) (sym same) e) in
          subst (λ (x : StepText). HasSystem db x.report) this (here (subst (λ (x : StepText). report_line x < line) (sym this) lt))
    ]
  ]

  broken_kept : (line : ℕ) (rule : CheckRule) → IsKeptInPath db path line rule → IsKeptInStep db path i s line rule
  broken_kept line rule whole = whole.steps i s at_i

  first_rule : (rule : CheckRule) (line : ℕ) → line ≤ left_line s → IsStepFault db path i s (faults.Broken rule line) → IsPathFault db path (faults.Broken rule line)
  first_rule rule line within is = record {
    first = record {
      broken = λ whole. is.first.broken (broken_kept line rule whole);
      before = λ k earlier precedes. kept k earlier (early k earlier precedes) (is.first.before k earlier precedes);
    };
    given = given line within is.given;
  }
    where
      early : (k : ℕ) (earlier : CheckRule) → Precedes k earlier line rule → k ≤ left_line s
      early k earlier (inl lt) = omega (arith, lt, within)
      early k earlier (inr same) = omega (arith, same.0, within)

  pub lifted : (fault : DocumentFault) → IsStepFault db path i s fault → IsPathFault db path fault
  lifted (faults.Broken rule line) is = elim (cases_lt (left_line s) line) [
    | inl past ↦ absurd (is.first.broken (kept_past db path i s line rule spelled_step past))
    | inr within ↦ first_rule rule line within is
  ]
  lifted (faults.System fault) is =
      let line = is.0 in
      let here = is.1 in
      let within : line ≤ left_line s = omega (arith, here.refused.here) in (
        line,
        record {
          refused = record { i = i; step = s; is_step = at_i; refused = here.refused };
          before = λ k rule lt. kept k rule (omega (arith, lt, within)) (here.before k rule lt);
          given = given line within here.given;
        },
      )
  lifted faults.Memory is = tt
