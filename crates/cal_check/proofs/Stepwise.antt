-- The judge of a step: its number first, then its report with the head, then what it leaves.
use Rattle.std.proofs.Common.{◌≡◌, ℕ, zero, suc, ◌+◌, ◌^◌, ◌<◌, ◌≤◌, List, [], ◌∷◌, length, slice_get, slice_index_or, refl, arith, ap, sym, ◌∙◌, subst, inl, inr, Some, None, Ok, Err, Option}
use Rattle.std.specs.Prelude.{Result, IfOk, IfErr}
use Rattle.std.proofs.lemmas.Bool.{cases_lt}
use Rattle.temp_fun.specs.Functions.{AreFunctions}
use Rattle.tdb_read.specs.Database.{Database}
use Rattle.cef_core.specs.declared.system.System.{System}
use Rattle.cef_report.specs.Spelled.{IsSpelled}
use Rattle.cef_report.specs.Texts.{lines}
use Rattle.cef_path.specs.declared.step.StepText.{StepText}
use Rattle.cef_path.specs.declared.path.PathText.{PathText}
use Rattle.cef_path.specs.Ledgers.{IsLeft}
use Rattle.eq_cert.specs.declared.rule.CheckRule.{CheckRule}
use Rattle.eq_cert.specs.declared.rule.CheckRule.TheVariants.{Path as by_path}
use Rattle.eq_cert.specs.Rules.{Precedes}
use Rattle.eq_cert.proofs.Judging.{lines_of}
use Rattle.cal_check.specs.declared.fault.DocumentFault.{DocumentFault}
use Rattle.cal_check.specs.declared.fault.DocumentFault.TheVariants as faults
use Rattle.cal_check.specs.Documents.{IsKeptInStep}
use Rattle.cal_check.specs.Paths.{IsNext, report_line, left_line}
use Rattle.cal_check.specs.Workings.{AreRightBefore, AtStep, FollowsHead, IsHeadedFault, IsKeptHeaded, IsLineVerdict, IsRightHeaded, IsRightReport, IsRightStep, IsStepFault, KeepsHead}
use Rattle.cal_check.proofs.Judged.{EachHasOutcome, all_kept}
use Rattle.cal_check.proofs.Lifting.{kept_behind}
use Rattle.cal_check.proofs.Merging.{path_earlier, not_later}

-- ---- the step at a place

there : (steps : List StepText) (i : ℕ) (s : StepText) → i < length steps → slice_get steps i ≡ Some (slice_index_or steps i s)
there [] i s lt = absurd (omega (arith, lt))
there (x ∷ steps) zero s lt = refl
there (x ∷ steps) (suc i) s lt = there steps i s (omega (arith, lt))

pub is_there : (steps now : List StepText) (i : ℕ) (s : StepText) → now ≡ steps → s ≡ slice_index_or now i s → i < length steps → slice_get steps i ≡ Some s
is_there steps now i s same is lt =
    let here : s ≡ slice_index_or steps i s = subst (λ (l : List StepText). s ≡ slice_index_or l i s) same is in
    there steps i s lt ∙ ap (λ (x : StepText). Some x) (sym here)

pub some_there : (steps : List StepText) (i : ℕ) → i < length steps → (s : StepText) × slice_get steps i ≡ Some s
some_there [] i lt = absurd (omega (arith, lt))
some_there (x ∷ steps) zero lt = (x, refl)
some_there (x ∷ steps) (suc i) lt = some_there steps i (omega (arith, lt))

pub more_right : (db : Database) (path : PathText) (i : ℕ) → AreRightBefore db path i → AtStep path.steps i (IsRightStep db path i) → AreRightBefore db path (i + 1)
more_right db path i before here j lt s at = elim (cases_lt j i) [
  | inl less ↦ before j less s at
  | inr le ↦
      let same : i ≡ j = omega (arith, le, lt) in
      subst (λ (k : ℕ). AtStep path.steps k (IsRightStep db path k)) same here s at
]

-- ---- a fault in one case

pub if_ok : {A E : Type 0} (P Q : A → Type 0) (r : Result A E) → ((a : A) → P a → Q a) → IfOk r P → IfOk r Q
if_ok P Q (Ok a) on is = on a is
if_ok P Q (Err e) on is = tt

pub if_err : {A E : Type 0} (P Q : E → Type 0) (r : Result A E) → ((e : E) → P e → Q e) → IfErr r P → IfErr r Q
if_err P Q (Ok a) on is = tt
if_err P Q (Err e) on is = on e is

-- ---- room

pub head_room : (s : StepText) → IsSpelled s.report → left_line s < 2 ^ 32 → s.line + 6 < 2 ^ 32
head_room s spelled room = omega (arith, room, lines_of s.report spelled)

-- ---- a report and its head that are right

abbrev RightHeaded : Database → PathText → ℕ → StepText → Result System DocumentFault → Type 0
RightHeaded db path i s r = IfOk r (λ system. IsRightHeaded db path i s system)

pub right_headed : (db : Database) (path : PathText) (i : ℕ) (s : StepText) (found : Result System DocumentFault) (head : Option ℕ) (result : Result System DocumentFault) → FollowsHead found head result →
    IfOk found (λ system. IsRightReport db s.report system) → IsLineVerdict (KeepsHead path i s) head → RightHeaded db path i s result
right_headed db path i s (Ok system) None result is right verdict = subst (RightHeaded db path i s) (sym is) (record { report = right; head = verdict })
right_headed db path i s (Ok system) (Some other) result is right verdict = subst (RightHeaded db path i s) (sym is) tt
right_headed db path i s (Err (faults.Broken rule line)) None result is right verdict = subst (RightHeaded db path i s) (sym is) tt
right_headed db path i s (Err (faults.Broken rule line)) (Some other) result (inl front) right verdict = subst (RightHeaded db path i s) (sym front.1) tt
right_headed db path i s (Err (faults.Broken rule line)) (Some other) result (inr behind) right verdict = subst (RightHeaded db path i s) (sym behind.1) tt
right_headed db path i s (Err (faults.System cause)) head result is right verdict = subst (RightHeaded db path i s) (sym is) tt
right_headed db path i s (Err faults.Memory) head result is right verdict = subst (RightHeaded db path i s) (sym is) tt

-- ---- the step

module _ (db : Database) (path : PathText) (i : ℕ) (s : StepText) where
  -- its number is wrong
  pub next_first : (IsNext path i s → ⊥) → IsStepFault db path i s (faults.Broken by_path s.line)
  next_first off = record {
    first = record {
      broken = λ whole. off ((whole.head refl).next refl);
      before = λ k earlier precedes.
          let le = not_later k s.line earlier by_path precedes in
          record {
            report = λ n system e given. absurd (omega (arith, le, e));
            head = λ is.
                let lt = path_earlier k s.line earlier by_path is precedes in
                record {
                  next = λ e. absurd (omega (arith, lt, e));
                  temperature = λ e. absurd (omega (arith, lt, e));
                  lattice = λ e. absurd (omega (arith, lt, e));
                  elements = λ e. absurd (omega (arith, lt, e));
                  phases = λ e. absurd (omega (arith, lt, e));
                  asked = λ e. absurd (omega (arith, lt, e));
                };
            left = λ is e. absurd (omega (arith, le, e));
          };
    };
    given = λ lt. absurd (omega (arith, lt));
  }

  -- behind its report nothing of the report is asked
  past : (line : ℕ) (rule : CheckRule) → IsSpelled s.report → left_line s ≤ line → IsKeptHeaded db path i s line rule
  past line rule spelled le =
      let some = lines_of s.report spelled in
      record {
        report = λ k system e given. kept_behind system s.report k rule spelled (omega (arith, le, e));
        head = λ is. record {
          temperature = λ e. absurd (omega (arith, le, e, some));
          lattice = λ e. absurd (omega (arith, le, e, some));
          elements = λ e. absurd (omega (arith, le, e, some));
          phases = λ e. absurd (omega (arith, le, e, some));
          asked = λ e. absurd (omega (arith, le, e, some));
        };
      }

  -- in front of the line of what it leaves, the step asks its number beside
  kept : (line : ℕ) (rule : CheckRule) → IsNext path i s → line < left_line s → IsKeptHeaded db path i s line rule → IsKeptInStep db path i s line rule
  kept line rule next lt is = record {
    report = is.report;
    head = λ e. record {
      next = λ at. next;
      temperature = (is.head e).temperature;
      lattice = (is.head e).lattice;
      elements = (is.head e).elements;
      phases = (is.head e).phases;
      asked = (is.head e).asked;
    };
    left = λ e at. absurd (omega (arith, lt, at));
  }

  headed : (line : ℕ) (rule : CheckRule) → IsKeptInStep db path i s line rule → IsKeptHeaded db path i s line rule
  headed line rule is = record {
    report = is.report;
    head = λ e. record {
      temperature = (is.head e).temperature;
      lattice = (is.head e).lattice;
      elements = (is.head e).elements;
      phases = (is.head e).phases;
      asked = (is.head e).asked;
    };
  }

  -- its report or the head of it is wrong
  headed_first : (rule : CheckRule) (line : ℕ) → IsNext path i s → line < left_line s → IsHeadedFault db path i s (faults.Broken rule line) → IsStepFault db path i s (faults.Broken rule line)
  headed_first rule line next lt is = record {
    first = record {
      broken = λ whole. is.first.broken (headed line rule whole);
      before = λ k earlier precedes. kept k earlier next (omega (arith, lt, not_later k line earlier rule precedes)) (is.first.before k earlier precedes);
    };
    given = is.given;
  }

  pub headed_fault : (fault : DocumentFault) → IsSpelled s.report → IsNext path i s → IsHeadedFault db path i s fault → IsStepFault db path i s fault
  headed_fault (faults.Broken rule line) spelled next is = elim (cases_lt line (left_line s)) [
    | inl lt ↦ headed_first rule line next lt is
    | inr le ↦ absurd (is.first.broken (past line rule spelled le))
  ]
  headed_fault (faults.System cause) spelled next is =
      let here = is.1.refused.here in (
        is.0,
        record {
          refused = is.1.refused;
          before = λ k rule lt. kept k rule next (omega (arith, lt, here)) (is.1.before k rule lt);
          given = is.1.given;
        },
      )
  headed_fault faults.Memory spelled next is = tt

  -- what it leaves is wrong
  pub left_first : (line : ℕ) (system : System) → EachHasOutcome → AreFunctions db.functions → line ≡ left_line s → IsNext path i s → IsRightHeaded db path i s system → (IsLeft system path.liquid s.report s.left → ⊥) →
      IsStepFault db path i s (faults.Broken by_path line)
  left_first line system law functions here next right off = record {
    first = record {
      broken = λ whole. off (whole.left refl here system right.report.given);
      before = λ k earlier precedes. record {
        report = all_kept db (report_line s) s.report system law functions right.report.given right.report.meets k earlier;
        head = λ e. record {
          next = λ at. next;
          temperature = (right.head k).temperature;
          lattice = (right.head k).lattice;
          elements = (right.head k).elements;
          phases = (right.head k).phases;
          asked = (right.head k).asked;
        };
        left = λ is at. absurd (omega (arith, at, here, path_earlier k line earlier by_path is precedes));
      };
    };
    given = λ lt. (system, right.report.given);
  }

  pub right_step : (system : System) → IsNext path i s → IsRightHeaded db path i s system → IsLeft system path.liquid s.report s.left → IsRightStep db path i s
  right_step system next right left = record {
    next = next;
    system = system;
    report = right.report;
    head = record {
      temperature = (right.head (report_line s + 1)).temperature refl;
      lattice = (right.head (report_line s + 2)).lattice refl;
      elements = (right.head (report_line s + 3)).elements refl;
      phases = (right.head (report_line s + 4)).phases refl;
      asked = (right.head (report_line s + 5)).asked refl;
    };
    left = left;
  }
