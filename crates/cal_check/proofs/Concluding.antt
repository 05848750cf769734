-- A path whose steps are right and whose end keeps its rules meets every rule, and holds.
use Rattle.std.proofs.Common.{◌≡◌, ℕ, zero, suc, ◌+◌, ◌-◌, ◌*◌, ◌<◌, ◌≤◌, List, [], ◌∷◌, length, slice_get, Some, Option, refl, arith, ap, sym, ◌∙◌, subst, inl, inr}
use Rattle.std.specs.Prelude.{ℤ, ◌*ℤ◌}
use Rattle.std.specs.List.{flat_map}
use Rattle.std.specs.Option.{option_map_or}
use Rattle.std.proofs.lemmas.Int.{ints}
use Rattle.std.proofs.Math.Nat.{suc-mul}
use Rattle.std.proofs.lemmas.Option.{slice_get_within}
use Rattle.temp_fun.specs.Functions.{AreFunctions}
use Rattle.tdb_read.specs.Database.{Database}
use Rattle.cal_math.specs.Sums.{sum_of}
use Rattle.cal_math.specs.Vectors.{at}
use Rattle.cef_core.specs.declared.system.System.{System}
use Rattle.cef_report.specs.declared.entry.Entry.{Entry}
use Rattle.cef_report.specs.declared.report.Report.{Report}
use Rattle.cef_report.specs.Assemblages.{content_of}
use Rattle.cef_report.specs.Holding.{Holds}
use Rattle.cef_report.specs.Spelled.{IsSpelled, AreNumbers}
use Rattle.cef_path.specs.declared.finish.Finish.{Finish}
use Rattle.cef_path.specs.declared.step.StepText.{StepText}
use Rattle.cef_path.specs.declared.path.PathText.{PathText}
use Rattle.cef_path.specs.Ledgers.{is_of, solid_total, IsLeft}
use Rattle.cef_path.specs.Paths.{asked_at, IsStep, StepsHold, HasFinish, GoOn, solids_of, PathHolds}
use Rattle.cef_path.specs.Spelled.{IsSpelledPath, IsSpelledStep, AreNumbersOfFirst}
use Rattle.cef_path.proofs.Balance.{parted}
use Rattle.eq_cert.specs.declared.rule.CheckRule.{CheckRule}
use Rattle.eq_cert.specs.declared.rule.CheckRule.TheVariants.{Path as by_path}
use Rattle.eq_cert.specs.Rules.{Precedes}
use Rattle.eq_cert.proofs.Picks.{all_at, item_at}
use Rattle.path_text.specs.declared.kind.Document.TheVariants as document
use Rattle.cal_check.specs.declared.fault.DocumentFault.TheVariants.{Broken}
use Rattle.cal_check.specs.Systems.{IsSystemFor, HasSystem, AreSystemsFor, job_of}
use Rattle.cal_check.specs.Paths.{start_of, first_asked, first_temperature, OfFirst, OfLast, HasLiquid, HasSolids, HasLost, IsStepHeadKept, IsEndKept, finish_line, report_line, left_line}
use Rattle.cal_check.specs.Documents.{IsKeptInPath, IsKeptInStep, MeetsAll, DocumentHolds}
use Rattle.cal_check.specs.Workings.{AreRightBefore, IsRightStep, IsPathFault, IsRightPath, KeepsEnd, HasPlainSolids, HasPlainLost, solid_in, lost_in}
use Rattle.cal_check.proofs.Judged.{EachHasOutcome, one_system}
use Rattle.cal_check.proofs.Standing.{behind}
use Rattle.cal_check.proofs.Lifting.{right_kept}
use Rattle.cal_check.proofs.Placing.{asked_first, last_yes}
use Rattle.cal_check.proofs.Gathered.{same_job, HaveSystems, HaveJobs, chosen, is_chosen}

-- ---- rules and lines

-- a path's rule comes before another line's only at an earlier line
path_first : (k line : ℕ) (earlier : CheckRule) → earlier ≡ by_path → Precedes k earlier line by_path → k < line
path_first k line earlier is (inl lt) = lt
path_first k line earlier is (inr same) =
    let lower = subst (λ (rule : CheckRule). Precedes k rule line by_path) is (inr same) in
    strict lower
  where
    strict : Precedes k by_path line by_path → k < line
    strict (inl lt) = lt
    strict (inr both) = absurd (omega (arith, both.1))

at_most : (k line : ℕ) (earlier rule : CheckRule) → Precedes k earlier line rule → k ≤ line
at_most k line earlier rule (inl lt) = omega (arith, lt)
at_most k line earlier rule (inr same) = omega (arith, same.0)

front : (db : Database) (path : PathText) (i : ℕ) (s : StepText) (line : ℕ) (rule : CheckRule) → line < s.line → IsKeptInStep db path i s line rule
front db path i s line rule lt = record {
  report = λ k system e given. absurd (omega (arith, lt, e));
  head = λ is. record {
    next = λ e. absurd (omega (arith, lt, e));
    temperature = λ e. absurd (omega (arith, lt, e));
    lattice = λ e. absurd (omega (arith, lt, e));
    elements = λ e. absurd (omega (arith, lt, e));
    phases = λ e. absurd (omega (arith, lt, e));
    asked = λ e. absurd (omega (arith, lt, e));
  };
  left = λ is e. absurd (omega (arith, lt, e));
}

-- a path whose liquid is no phase of its first report
pub no_liquid : (db : Database) (path : PathText) → IsSpelledPath path → (HasLiquid path → ⊥) → IsPathFault db path (Broken by_path 2)
no_liquid db path spelled lacks = record {
  first = record {
    broken = λ whole. lacks (whole.head refl refl);
    before = λ k earlier precedes. record {
      head = λ is e. absurd (omega (arith, e, path_first k 2 earlier is precedes));
      steps = λ i s e. front db path i s k earlier (omega (arith, at_most k 2 earlier by_path precedes, behind 6 path.steps i s spelled.stand e));
      end = λ is. let low = at_most k 2 earlier by_path precedes in record {
        finish = λ e. absurd (omega (arith, e, low));
        solids = λ e. absurd (omega (arith, e, low));
        remains = λ e. absurd (omega (arith, e, low));
        lost = λ e. absurd (omega (arith, e, low));
      };
    };
  };
  given = λ i s e lt. absurd (omega (arith, lt, behind 6 path.steps i s spelled.stand e));
}

-- ---- the numbers of steps

pub some_steps : (steps : List StepText) (lists : List (List ℤ)) → AreNumbersOfFirst steps lists → 0 < length steps
some_steps [] lists are = absurd are
some_steps (s ∷ steps) lists are = omega arith

solids_each : (path : PathText) (s : StepText) → IsSpelledPath path → slice_get path.steps 0 ≡ Some s → (length path.solids ≡ length s.report.elements) × (length path.lost ≡ length s.report.elements)
solids_each path s spelled e = by_steps path.steps spelled.lists e
  where
    by_steps : (steps : List StepText) → AreNumbersOfFirst steps (path.solids ∷ path.remains ∷ path.lost ∷ []) → slice_get steps 0 ≡ Some s
        → (length path.solids ≡ length s.report.elements) × (length path.lost ≡ length s.report.elements)
    by_steps [] are f = absurd are
    by_steps (x ∷ steps) are f =
        let same : x ≡ s = cc in
        subst (λ (y : StepText). (length path.solids ≡ length y.report.elements) × (length path.lost ≡ length y.report.elements)) same (are.0.0, are.1.1.0.0)

sum_same : (f g : StepText → ℤ) (steps : List StepText) → ((i : ℕ) (s : StepText) → slice_get steps i ≡ Some s → f s ≡ g s) → sum_of f steps ≡ sum_of g steps
sum_same f g [] each = refl
sum_same f g (s ∷ steps) each =
    let here = each 0 s refl in
    let rest = sum_same f g steps (λ i x e. each (suc i) x e) in
    omega (arith, ints, here, rest)

solid_is : (system : System) (liquid : List ℕ) (s : StepText) (c : ℕ) → Holds system s.report.asked s.report → IsLeft system liquid s.report s.left → c < length s.report.elements
    → solid_in c s ≡ solid_total system liquid s.report c
solid_is system liquid s c holds left lt =
    let within : c < length system.elements = subst (λ (names : List (List ℕ)). c < length names) holds.same_elements lt in
    let all = holds.totals_are c within in
    let part = left.totals_are c (omega (arith, lt, left.one_each)) in
    let both = parted (λ entry. entry.amount *ℤ content_of system entry c) (λ entry. is_of s.report.phases liquid entry) s.report.entries in
    omega (arith, ints, all, part, both)

temperature_first : (steps : List StepText) (s : StepText) → slice_get steps 0 ≡ Some s → first_temperature steps ≡ s.report.t
temperature_first [] s e = absurd cc
temperature_first (x ∷ steps) s e = let same : x ≡ s = cc in ap (λ (y : StepText). y.report.t) same

-- one descent more
lower : (t before first i descent : ℕ) → t + descent ≡ before → before + i * descent ≡ first → t + suc i * descent ≡ first
lower t before first i descent one rest =
    omega (arith, one, rest, suc-mul i descent)

-- ---- a path with right steps

module _ (db : Database) (path : PathText) (law : EachHasOutcome) (functions : AreFunctions db.functions) (spelled : IsSpelledPath path) (liquid : HasLiquid path)
    (right : AreRightBefore db path (length path.steps)) where
  some : 0 < length path.steps
  some = some_steps path.steps _ spelled.lists

  abbrev first : (s : StepText) × (slice_get path.steps 0 ≡ Some s)
  first = item_at path.steps 0 some

  abbrev step_at : (i : ℕ) (s : StepText) → slice_get path.steps i ≡ Some s → IsRightStep db path i s
  step_at i s e = right i (slice_get_within path.steps i s e) s e

  abbrev has : HaveSystems db path.steps
  has i s e = let is = step_at i s e in (is.system, is.report.given)

  jobs : HaveJobs path.steps
  jobs i j a b e f t =
      let x = (step_at i a e).head in
      let y = (step_at j b f).head in
      same_job a.report b.report t
      (x.lattice first.0 first.1 ∙ sym (y.lattice first.0 first.1))
      (x.elements first.0 first.1 ∙ sym (y.elements first.0 first.1))
      (x.phases first.0 first.1 ∙ sym (y.phases first.0 first.1))

  abbrev systems : ℕ → System
  systems = chosen db path.steps (has 0 first.0 first.1).0 has

  are_for : AreSystemsFor db systems path.steps
  are_for i s e = is_chosen db path.steps (has 0 first.0 first.1).0 has jobs i s e

  system_is : (others : ℕ → System) → AreSystemsFor db others path.steps → (i : ℕ) (s : StepText) (e : slice_get path.steps i ≡ Some s) → (step_at i s e).system ≡ others s.report.t
  system_is others are i s e = one_system db s.report (step_at i s e).system (others s.report.t) law functions (step_at i s e).report.given (are i s e)

  elements_each : (i : ℕ) (s : StepText) → slice_get path.steps i ≡ Some s → length s.report.elements ≡ length (first_asked path.steps)
  elements_each i s e =
      let same = (step_at i s e).head.elements first.0 first.1 in
      let own = (all_at IsSpelledStep path.steps 0 first.0 spelled.steps first.1).report.asked.0 in
      ap length same ∙ sym own ∙ sym (ap length (asked_first path.steps first.0 first.1))

  solids_long : length path.solids ≡ length (first_asked path.steps)
  solids_long = (solids_each path first.0 spelled first.1).0 ∙ elements_each 0 first.0 first.1

  lost_long : length path.lost ≡ length (first_asked path.steps)
  lost_long = (solids_each path first.0 spelled first.1).1 ∙ elements_each 0 first.0 first.1

  solids_same : (others : ℕ → System) → AreSystemsFor db others path.steps → (c : ℕ) → c < length (first_asked path.steps) → sum_of (solid_in c) path.steps ≡ solids_of others (start_of path) path.steps c
  solids_same others are c lt =
      sum_same (solid_in c) (λ step. solid_total (others step.report.t) path.liquid step.report c) path.steps (λ i s e.
      let is = step_at i s e in
      subst (λ (x : System). solid_in c s ≡ solid_total x path.liquid s.report c) (system_is others are i s e)
      (solid_is is.system path.liquid s c is.report.holds is.left (omega (arith, lt, elements_each i s e))))

  end_kept : (line : ℕ) → KeepsEnd path line → IsEndKept db path line
  end_kept line keeps = record {
    finish = keeps.finish;
    solids = λ e others are c lt. keeps.solids e c (omega (arith, lt, solids_long)) ∙ solids_same others are c lt;
    remains = keeps.remains;
    lost = λ e c lt. keeps.lost e c (omega (arith, lt, lost_long));
  }

  end_from : (line : ℕ) → IsEndKept db path line → KeepsEnd path line
  end_from line kept = record {
    finish = kept.finish;
    solids = λ e c lt.
        let within : c < length (first_asked path.steps) = omega (arith, lt, solids_long) in
        kept.solids e systems are_for c within ∙ sym (solids_same systems are_for c within);
    remains = kept.remains;
    lost = λ e c lt. kept.lost e c (omega (arith, lt, lost_long));
  }

  kept_at : (line : ℕ) (rule : CheckRule) → (rule ≡ by_path → KeepsEnd path line) → IsKeptInPath db path line rule
  kept_at line rule keeps = record {
    head = λ is e. liquid;
    steps = λ i s e. right_kept db path i s line rule law functions (step_at i s e);
    end = λ is. end_kept line (keeps is);
  }

  -- the first line of the end at which a rule is broken
  pub end_fault : (line : ℕ) → (KeepsEnd path line → ⊥) → ((k : ℕ) → k < line → KeepsEnd path k) → IsPathFault db path (Broken by_path line)
  end_fault line broken keeps = record {
    first = record {
      broken = λ whole. broken (end_from line (whole.end refl));
      before = λ k earlier precedes. kept_at k earlier (λ is. keeps k (path_first k line earlier is precedes));
    };
    given = λ i s e lt. has i s e;
  }

  pub path_meets : ((line : ℕ) → KeepsEnd path line) → MeetsAll db (document.Path path)
  path_meets keeps = record {
    given = λ line i s e lt. has i s e;
    kept = λ line rule. kept_at line rule (λ is. keeps line);
  }

  asked_is : (i : ℕ) (s : StepText) → slice_get path.steps i ≡ Some s → s.report.asked ≡ asked_at (first_asked path.steps) path.steps i
  asked_is zero s e = sym (asked_first path.steps s e)
  asked_is (suc i) s e =
      let before = item_at path.steps i (omega (arith, slice_get_within path.steps (suc i) s e)) in
      (step_at (suc i) s e).head.asked before.0 i refl before.1
      ∙ sym (ap (λ (o : Option StepText). option_map_or (λ (step : StepText). step.left) o []) before.1)

  lowered : (i : ℕ) (s : StepText) → slice_get path.steps i ≡ Some s → s.report.t + i * path.descent ≡ first_temperature path.steps
  lowered zero s e = omega (arith, temperature_first path.steps s e)
  lowered (suc i) s e =
      let before = item_at path.steps i (omega (arith, slice_get_within path.steps (suc i) s e)) in
      lower s.report.t before.0.report.t (first_temperature path.steps) i path.descent ((step_at (suc i) s e).head.temperature before.0 i refl before.1) (lowered i before.0 before.1)

  steps_hold : StepsHold systems (start_of path) path.steps
  steps_hold i s e =
      let is = step_at i s e in
      let same = system_is systems are_for i s e in
      record {
        number = is.next.number;
        temperature = lowered i s e;
        holds = subst (λ (x : System). Holds x (asked_at (first_asked path.steps) path.steps i) s.report) same
            (subst (λ (asked : List ℤ). Holds is.system asked s.report) (asked_is i s e) is.report.holds);
        left = subst (λ (x : System). IsLeft x path.liquid s.report s.left) same is.left;
        spelled = (all_at IsSpelledStep path.steps i s spelled.steps e).report;
      }

  abbrev last_step : (s : StepText) × (slice_get path.steps (length path.steps - 1) ≡ Some s)
  last_step = item_at path.steps (length path.steps - 1) (omega (arith, some))

  go_on : GoOn (start_of path) (length path.steps - 1) path.steps
  go_on i s lt e =
      let next = item_at path.steps (suc i) (omega (arith, lt)) in
      (step_at (suc i) next.0 next.1).next.goes_on s i refl e

  pub path_holds : ((line : ℕ) → KeepsEnd path line) → DocumentHolds db (document.Path path)
  path_holds keeps = (
    systems,
    are_for,
    record {
      same_liquid = refl;
      same_descent = refl;
      same_floor = refl;
      same_stop = refl;
      steps_hold = steps_hold;
      last = last_step.0;
      is_last = last_step.1;
      go_on = go_on;
      finish = (keeps (finish_line path)).finish refl last_step.0 last_step.1;
      components = (solids_long, lost_long);
      solids_are = λ c lt. (keeps (finish_line path + 1)).solids refl c (omega (arith, lt, solids_long)) ∙ solids_same systems are_for c lt;
      remains_are = (keeps (finish_line path + 2)).remains refl last_step.0 last_step.1;
      lost_are = λ c lt. (keeps (finish_line path + 3)).lost refl c (omega (arith, lt, lost_long));
    },
  )
