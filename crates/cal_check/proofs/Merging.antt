-- The first of what is found of a report and of the rules of its path on its head.
use Rattle.std.proofs.Common.{◌≡◌, ℕ, ◌+◌, ◌<◌, ◌≤◌, refl, arith, ap, sym, ◌∙◌, subst, inl, inr, Some, None, Ok, Err, Option}
use Rattle.std.specs.Prelude.{Result, IfOk, IfErr}
use Rattle.temp_fun.specs.Functions.{AreFunctions}
use Rattle.tdb_read.specs.Database.{Database}
use Rattle.cef_core.specs.declared.system.System.{System}
use Rattle.cef_path.specs.declared.step.StepText.{StepText}
use Rattle.cef_path.specs.declared.path.PathText.{PathText}
use Rattle.cal_select.specs.declared.fault.SystemFault.{SystemFault}
use Rattle.eq_cert.specs.declared.rule.CheckRule.{CheckRule}
use Rattle.eq_cert.specs.declared.rule.CheckRule.TheVariants as kinds
use Rattle.eq_cert.specs.declared.rule.CheckRule.TheVariants.{Path as by_path}
use Rattle.eq_cert.specs.Rules.{IsFirstBroken, Precedes, number_of}
use Rattle.cal_check.specs.declared.fault.DocumentFault.{DocumentFault}
use Rattle.cal_check.specs.declared.fault.DocumentFault.TheVariants as faults
use Rattle.cal_check.specs.Paths.{report_line}
use Rattle.cal_check.specs.Workings.{FollowsHead, IsHeadedFault, IsLineVerdict, IsReportFault, IsRightReport, KeepsHead}
use Rattle.cal_check.proofs.Judged.{EachHasOutcome, all_kept}

number_most : (rule : CheckRule) → number_of rule ≤ 9
number_most kinds.Text = omega arith
number_most kinds.System = omega arith
number_most kinds.Entry = omega arith
number_most kinds.Total = omega arith
number_most kinds.Energy = omega arith
number_most kinds.Tolerance = omega arith
number_most kinds.Gap = omega arith
number_most kinds.Potentials = omega arith
number_most kinds.Tree = omega arith
number_most kinds.Path = omega arith

-- a rule of a path that comes before a rule at a line stands at an earlier line
pub path_earlier : (k line : ℕ) (earlier rule : CheckRule) → earlier ≡ by_path → Precedes k earlier line rule → k < line
path_earlier k line earlier rule is (inl lt) = lt
path_earlier k line earlier rule is (inr same) =
    let last : number_of earlier ≡ 9 = ap number_of is in
    absurd (omega (arith, same.1, last, number_most rule))

pub not_later : (k line : ℕ) (earlier rule : CheckRule) → Precedes k earlier line rule → k ≤ line
not_later k line earlier rule (inl lt) = omega (arith, lt)
not_later k line earlier rule (inr same) = omega (arith, same.0)

front_head : (path : PathText) (i : ℕ) (s : StepText) (line : ℕ) → line < report_line s → KeepsHead path i s line
front_head path i s line lt = record {
  temperature = λ e. absurd (omega (arith, lt, e));
  lattice = λ e. absurd (omega (arith, lt, e));
  elements = λ e. absurd (omega (arith, lt, e));
  phases = λ e. absurd (omega (arith, lt, e));
  asked = λ e. absurd (omega (arith, lt, e));
}

module _ (db : Database) (path : PathText) (i : ℕ) (s : StepText) where
  -- the report's own fault, where the head is kept in front of its line
  own_first : (rule : CheckRule) (line : ℕ) → ((k : ℕ) → k < line → KeepsHead path i s k) → IsReportFault db (report_line s) s.report (faults.Broken rule line) → IsHeadedFault db path i s (faults.Broken rule line)
  own_first rule line head is = record {
    first = record {
      broken = λ whole. is.first.broken whole.report;
      before = λ k earlier precedes. record { report = is.first.before k earlier precedes; head = λ e. head k (path_earlier k line earlier rule e precedes) };
    };
    given = is.given;
  }

  -- the head's, where it comes first
  head_first : (rule : CheckRule) (line other : ℕ) → other < line → (KeepsHead path i s other → ⊥) → ((k : ℕ) → k < other → KeepsHead path i s k) → IsReportFault db (report_line s) s.report (faults.Broken rule line) →
      IsHeadedFault db path i s (faults.Broken by_path other)
  head_first rule line other lt broken before is = record {
    first = record {
      broken = λ whole. broken (whole.head refl);
      before = λ k earlier precedes. record {
        report = is.first.before k earlier (inl (omega (arith, lt, not_later k other earlier by_path precedes)));
        head = λ e. before k (path_earlier k other earlier by_path e precedes);
      };
    };
    given = λ front. is.given (omega (arith, front, lt));
  }

  -- the head's alone
  head_alone : (system : System) (other : ℕ) → EachHasOutcome → AreFunctions db.functions → IsRightReport db s.report system → (KeepsHead path i s other → ⊥) → ((k : ℕ) → k < other → KeepsHead path i s k) →
      IsHeadedFault db path i s (faults.Broken by_path other)
  head_alone system other law functions right broken before = record {
    first = record {
      broken = λ whole. broken (whole.head refl);
      before = λ k earlier precedes. record {
        report = all_kept db (report_line s) s.report system law functions right.given right.meets k earlier;
        head = λ e. before k (path_earlier k other earlier by_path e precedes);
      };
    };
    given = λ front. (system, right.given);
  }

  refused : (fault : SystemFault) → IsReportFault db (report_line s) s.report (faults.System fault) → IsHeadedFault db path i s (faults.System fault)
  refused fault is = (
    is.0,
    record {
      refused = is.1.refused;
      before = λ k rule lt. record { report = is.1.before k rule lt; head = λ e. front_head path i s k (omega (arith, lt, is.1.refused.here)) };
      given = is.1.given;
    },
  )

  abbrev Faulty : Result System DocumentFault → Type 0
  Faulty r = IfErr r (λ fault. IsHeadedFault db path i s fault)

  pub merged : (found : Result System DocumentFault) (head : Option ℕ) (result : Result System DocumentFault) → EachHasOutcome → AreFunctions db.functions → FollowsHead found head result →
      IfOk found (λ system. IsRightReport db s.report system) → IfErr found (λ fault. IsReportFault db (report_line s) s.report fault) → IsLineVerdict (KeepsHead path i s) head → Faulty result
  merged (Ok system) None result law functions is right fault verdict = subst Faulty (sym is) tt
  merged (Ok system) (Some other) result law functions is right fault verdict = subst Faulty (sym is) (head_alone system other law functions right verdict.0 verdict.1)
  merged (Err (faults.Broken rule line)) None result law functions is right fault verdict = subst Faulty (sym is) (own_first rule line (λ k lt. verdict k) fault)
  merged (Err (faults.Broken rule line)) (Some other) result law functions (inl front) right fault verdict = subst Faulty (sym front.1) (head_first rule line other front.0 verdict.0 verdict.1 fault)
  merged (Err (faults.Broken rule line)) (Some other) result law functions (inr behind) right fault verdict =
      subst Faulty (sym behind.1) (own_first rule line (λ k lt. verdict.1 k (omega (arith, lt, behind.0))) fault)
  merged (Err (faults.System cause)) head result law functions is right fault verdict = subst Faulty (sym is) (refused cause fault)
  merged (Err faults.Memory) head result law functions is right fault verdict = subst Faulty (sym is) tt
