-- What the judge of a step and of the end of a path finds beside the step.
use Rattle.std.proofs.Common.{◌≡◌, ℕ, zero, suc, ◌+◌, ◌-◌, ◌<◌, ◌≤◌, List, [], ◌∷◌, length, slice_get, slice_index_or, get_or, Some, refl, arith, ap, sym, ◌∙◌, subst, rules, Bool, true, false, not, is_some, Option, None, nat_eq}
use Rattle.std.specs.Prelude.{ℤ}
use Rattle.std.specs.Bool.{OnTrue, OnFalse, MatchBool}
use Rattle.std.specs.List.{Any, AllWithin, HoldsAt}
use Rattle.std.proofs.lemmas.Bool.{OnTrue_from, OnFalse_from}
use Rattle.std.proofs.lemmas.Int.{ints}
use Rattle.std.proofs.lemmas.Option.{slice_get_read}
use Rattle.cal_scan.specs.Lines.{Word}
use Rattle.cef_path.specs.declared.step.StepText.{StepText}
use Rattle.cef_path.specs.declared.path.PathText.{PathText}
use Rattle.cef_path.specs.declared.start.PathStart.{PathStart}
use Rattle.cef_path.specs.declared.finish.Finish.{Finish}
use Rattle.cef_path.specs.declared.finish.Finish.TheVariants.{NoLiquid, Fraction, Temperature}
use Rattle.cef_path.specs.Finishing.{FinishIs}
use Rattle.cef_path.specs.Paths.{HasFinish}
use Rattle.cef_path.specs.Spelled.{IsSpelledPath, IsSpelledStep}
use Rattle.cef_report.specs.declared.report.Report.{Report}
use Rattle.cef_report.specs.Spelled.{IsSpelled}
use Rattle.eq_cert.proofs.Picks.{all_at}
use Rattle.cal_check.specs.Paths.{OfFirst, OfLast, OfBefore, IsLowered, HasSameLattice, HasSameElements, HasSamePhases, AsksLeft, IsNext, Finishes, HasLiquid, start_of}
use Rattle.cal_check.specs.Workings.{AtStep, AreModest, IsLineVerdict, KeepsHead}
use Rattle.cal_check.proofs.Numbers.{asked_at}
use Rattle.cal_check.proofs.Placing.{at_yes, at_no, before_yes, before_no, first_yes, last_yes}

-- ---- what is read of a list

pub read : (view steps : List StepText) (i : ℕ) (s : StepText) → view ≡ steps → i < length steps → s ≡ get_or view i s → slice_get steps i ≡ Some s
read view steps i s same within is =
    slice_get_read steps (length steps) i s refl within (subst (λ (l : List StepText). s ≡ get_or l i s) same is)

pub read_last : (view steps : List StepText) (s : StepText) → view ≡ steps → 0 < length steps → s ≡ get_or view (length view - 1) s →
    slice_get steps (length steps - 1) ≡ Some s
read_last view steps s same some is =
    slice_get_read steps (length steps) (length steps - 1) s refl (omega (arith, some)) (subst (λ (l : List StepText). s ≡ get_or l (length l - 1) s) same is)

-- ---- the temperature of a step

nat_eq_at : {a b : ℕ} → nat_eq a b ≡ true → a ≡ b
nat_eq_at e = search (rules, e)

not_nat_eq : {a b : ℕ} → nat_eq a b ≡ false → a ≡ b → ⊥
not_nat_eq e = search (rules, e)

lowered_here : (path : PathText) (i : ℕ) (s b : StepText) → nat_eq (s.report.t + path.descent) b.report.t ≡ true →
    slice_get path.steps i ≡ Some s → slice_get path.steps (i - 1) ≡ Some b → AtStep path.steps i (IsLowered path i)
lowered_here path i s b same here before =
    at_yes (IsLowered path i) path.steps i s here (before_yes (λ b. s.report.t + path.descent ≡ b.report.t) path.steps i b before (nat_eq_at same))

not_lowered_here : (path : PathText) (i : ℕ) (s b : StepText) → nat_eq (s.report.t + path.descent) b.report.t ≡ false → 0 < i →
    slice_get path.steps i ≡ Some s → slice_get path.steps (i - 1) ≡ Some b → AtStep path.steps i (IsLowered path i) → ⊥
not_lowered_here path i s b other some here before =
    at_no (IsLowered path i) path.steps i s here (before_no (λ b. s.report.t + path.descent ≡ b.report.t) path.steps i b some before (λ e. not_nat_eq other e))

pub lowered_yes : (path : PathText) (i : ℕ) (s b : StepText) → slice_get path.steps i ≡ Some s → slice_get path.steps (i - 1) ≡ Some b →
    OnTrue (nat_eq (s.report.t + path.descent) b.report.t) (AtStep path.steps i (IsLowered path i))
lowered_yes path i s b here before =
    OnTrue_from (nat_eq (s.report.t + path.descent) b.report.t) (AtStep path.steps i (IsLowered path i)) (λ e. lowered_here path i s b e here before)

pub lowered_no : (path : PathText) (i : ℕ) (s b : StepText) → 0 < i → slice_get path.steps i ≡ Some s → slice_get path.steps (i - 1) ≡ Some b →
    OnFalse (nat_eq (s.report.t + path.descent) b.report.t) (AtStep path.steps i (IsLowered path i) → ⊥)
lowered_no path i s b some here before =
    OnFalse_from (nat_eq (s.report.t + path.descent) b.report.t) (AtStep path.steps i (IsLowered path i) → ⊥) (λ e. not_lowered_here path i s b e some here before)

-- ---- the number of a step, and the finish of the one before

pub asked_modest : (r : Report) → IsSpelled r → AreModest r.asked
asked_modest r is = record {
  few = omega (arith, is.few_elements, is.asked.0);
  low = λ c. (asked_at r.asked is.asked.1 c).0;
  high = λ c. omega (arith, ints, (asked_at r.asked is.asked.1 c).1);
}

pub first_modest : (path : PathText) (s : StepText) → IsSpelledPath path → slice_get path.steps 0 ≡ Some s → AreModest s.report.asked
first_modest path s spelled first = let is : IsSpelledStep s = all_at IsSpelledStep path.steps 0 s spelled.steps first in asked_modest s.report is.report

no_finish : (start : PathStart) (t : ℕ) (left : List ℤ) (f : Finish) → FinishIs start t left (Some f) → FinishIs start t left None → ⊥
no_finish start t left NoLiquid is none = none.0 is
no_finish start t left Fraction is none = none.1 is.1
no_finish start t left Temperature is none = none.2 is.2

pub next_yes : (path : PathText) (i : ℕ) (s b : StepText) (found : Option Finish) (none : Bool) → s.number ≡ i + 1 →
    slice_get path.steps i ≡ Some s → slice_get path.steps (i - 1) ≡ Some b →
    FinishIs (start_of path) b.report.t b.left found → is_some found ≡ not none → OnTrue none (AtStep path.steps i (IsNext path i))
next_yes path i s b None true number here before is none =
    at_yes (IsNext path i) path.steps i s here (record { number = number; goes_on = before_yes (λ b. HasFinish (start_of path) None b) path.steps i b before is })
next_yes path i s b None false number here before is none = tt
next_yes path i s b (Some f) true number here before is none = absurd cc
next_yes path i s b (Some f) false number here before is none = tt

pub next_no : (path : PathText) (i : ℕ) (s b : StepText) (found : Option Finish) (none : Bool) → 0 < i →
    slice_get path.steps i ≡ Some s → slice_get path.steps (i - 1) ≡ Some b →
    FinishIs (start_of path) b.report.t b.left found → is_some found ≡ not none → OnFalse none (AtStep path.steps i (IsNext path i) → ⊥)
next_no path i s b None true some here before is none = tt
next_no path i s b None false some here before is none = absurd cc
next_no path i s b (Some f) true some here before is none = tt
next_no path i s b (Some f) false some here before is none =
    at_no (IsNext path i) path.steps i s here
    (λ next. before_no (λ b. HasFinish (start_of path) None b) path.steps i b some before (no_finish (start_of path) b.report.t b.left f is) next.goes_on)

-- ---- the finish of a path

one_finish : (start : PathStart) (t : ℕ) (left : List ℤ) (f g : Finish) → FinishIs start t left (Some f) → FinishIs start t left (Some g) → f ≡ g
one_finish start t left NoLiquid NoLiquid a b = refl
one_finish start t left NoLiquid Fraction a b = absurd (b.0 a)
one_finish start t left NoLiquid Temperature a b = absurd (b.0 a)
one_finish start t left Fraction NoLiquid a b = absurd (a.0 b)
one_finish start t left Fraction Fraction a b = refl
one_finish start t left Fraction Temperature a b = absurd (b.1 a.1)
one_finish start t left Temperature NoLiquid a b = absurd (a.0 b)
one_finish start t left Temperature Fraction a b = absurd (a.1 b.1)
one_finish start t left Temperature Temperature a b = refl

pub finishes_yes : (path : PathText) (s : StepText) (f : Finish) → slice_get path.steps (length path.steps - 1) ≡ Some s →
    FinishIs (start_of path) s.report.t s.left (Some f) → f ≡ path.finish → Finishes path
finishes_yes path s f last is same =
    last_yes (λ s. HasFinish (start_of path) (Some path.finish) s) path.steps s last (subst (λ (g : Finish). FinishIs (start_of path) s.report.t s.left (Some g)) same is)

pub finishes_no : (path : PathText) (s : StepText) (f : Finish) → slice_get path.steps (length path.steps - 1) ≡ Some s →
    FinishIs (start_of path) s.report.t s.left (Some f) → (f ≡ path.finish → ⊥) → Finishes path → ⊥
finishes_no path s f last is other all = other (one_finish (start_of path) s.report.t s.left f path.finish is (all s last))

-- ---- the liquid of a path

index_again : {A : Type 0} (xs : List A) (k : ℕ) (d : A) → k < length xs → slice_index_or xs k (slice_index_or xs k d) ≡ slice_index_or xs k d
index_again [] k d lt = absurd (omega (arith, lt))
index_again (x ∷ xs) zero d lt = refl
index_again (x ∷ xs) (suc k) d lt = index_again xs k d (omega (arith, lt))

some_item : {A : Type 0} (P : A → Type 0) (xs : List A) (d : A) → (k : ℕ) × (k < length xs) × HoldsAt P xs k → Any P xs
some_item P xs d r = (r.0, slice_index_or xs r.0 d, r.1, index_again xs r.0 d r.1, r.2 d)

no_item : {A : Type 0} (P : A → Type 0) (xs : List A) → AllWithin (λ x. P x → ⊥) xs 0 (length xs) → Any P xs → ⊥
no_item P xs none any = none any.0 any.1 (omega arith) any.2 (subst P (sym any.3) any.4)

pub liquid_yes : (path : PathText) (first : StepText) (names : List Word) (b : Bool) → slice_get path.steps 0 ≡ Some first → names ≡ first.report.phases →
    MatchBool b ((k : ℕ) × (k < length names) × HoldsAt (λ name. name ≡ path.liquid) names k) (AllWithin (λ name. name ≡ path.liquid → ⊥) names 0 (length names)) →
    OnTrue b (HasLiquid path)
liquid_yes path first names true is same r =
    first_yes (λ first. Any (λ name. name ≡ path.liquid) first.report.phases) path.steps first is
    (subst (λ (l : List Word). Any (λ name. name ≡ path.liquid) l) same (some_item (λ name. name ≡ path.liquid) names [] r))
liquid_yes path first names false is same r = tt

pub liquid_no : (path : PathText) (first : StepText) (names : List Word) (b : Bool) → slice_get path.steps 0 ≡ Some first → names ≡ first.report.phases →
    MatchBool b ((k : ℕ) × (k < length names) × HoldsAt (λ name. name ≡ path.liquid) names k) (AllWithin (λ name. name ≡ path.liquid → ⊥) names 0 (length names)) →
    OnFalse b (HasLiquid path → ⊥)
liquid_no path first names true is same r = tt
liquid_no path first names false is same r = λ all.
    no_item (λ name. name ≡ path.liquid) names r (subst (λ (l : List Word). Any (λ name. name ≡ path.liquid) l) (sym same) (all first is))

-- ---- the head of a step's report

one_item : (a b : StepText) → Some a ≡ Some b → a ≡ b
one_item a b e = cc

pub line_is : (view steps : List StepText) (i : ℕ) (s step : StepText) → view ≡ steps → i < length steps → s ≡ get_or view i s → slice_get steps i ≡ Some step →
    (get_or view i s).line ≡ step.line
line_is view steps i s step same within is at =
    ap (λ (x : StepText). x.line) (sym is ∙ one_item s step (sym (read view steps i s same within is) ∙ at))

pub broken_temperature : (path : PathText) (i : ℕ) (step : StepText) (line : ℕ) → line ≡ step.line → slice_get path.steps i ≡ Some step →
    (AtStep path.steps i (IsLowered path i) → ⊥) → IsLineVerdict (KeepsHead path i step) (Some (line + 2))
broken_temperature path i step line is at off = (
  (λ keeps. off (at_yes (IsLowered path i) path.steps i step at (keeps.temperature (omega (arith, is))))),
  (λ k lt. record {
    temperature = λ e. absurd (omega (arith, is, e, lt));
    lattice = λ e. absurd (omega (arith, is, e, lt));
    elements = λ e. absurd (omega (arith, is, e, lt));
    phases = λ e. absurd (omega (arith, is, e, lt));
    asked = λ e. absurd (omega (arith, is, e, lt));
  }),
)

pub broken_lattice : (path : PathText) (i : ℕ) (step : StepText) (line : ℕ) → line ≡ step.line → slice_get path.steps i ≡ Some step →
    AtStep path.steps i (IsLowered path i) →
    (AtStep path.steps i (HasSameLattice path) → ⊥) → IsLineVerdict (KeepsHead path i step) (Some (line + 3))
broken_lattice path i step line is at lowered off = (
  (λ keeps. off (at_yes (HasSameLattice path) path.steps i step at (keeps.lattice (omega (arith, is))))),
  (λ k lt. record {
    temperature = λ e. lowered step at;
    lattice = λ e. absurd (omega (arith, is, e, lt));
    elements = λ e. absurd (omega (arith, is, e, lt));
    phases = λ e. absurd (omega (arith, is, e, lt));
    asked = λ e. absurd (omega (arith, is, e, lt));
  }),
)

pub broken_elements : (path : PathText) (i : ℕ) (step : StepText) (line : ℕ) → line ≡ step.line → slice_get path.steps i ≡ Some step →
    AtStep path.steps i (IsLowered path i) → AtStep path.steps i (HasSameLattice path) →
    (AtStep path.steps i (HasSameElements path) → ⊥) → IsLineVerdict (KeepsHead path i step) (Some (line + 4))
broken_elements path i step line is at lowered lattice off = (
  (λ keeps. off (at_yes (HasSameElements path) path.steps i step at (keeps.elements (omega (arith, is))))),
  (λ k lt. record {
    temperature = λ e. lowered step at;
    lattice = λ e. lattice step at;
    elements = λ e. absurd (omega (arith, is, e, lt));
    phases = λ e. absurd (omega (arith, is, e, lt));
    asked = λ e. absurd (omega (arith, is, e, lt));
  }),
)

pub broken_phases : (path : PathText) (i : ℕ) (step : StepText) (line : ℕ) → line ≡ step.line → slice_get path.steps i ≡ Some step →
    AtStep path.steps i (IsLowered path i) → AtStep path.steps i (HasSameLattice path) → AtStep path.steps i (HasSameElements path) →
    (AtStep path.steps i (HasSamePhases path) → ⊥) → IsLineVerdict (KeepsHead path i step) (Some (line + 5))
broken_phases path i step line is at lowered lattice elements off = (
  (λ keeps. off (at_yes (HasSamePhases path) path.steps i step at (keeps.phases (omega (arith, is))))),
  (λ k lt. record {
    temperature = λ e. lowered step at;
    lattice = λ e. lattice step at;
    elements = λ e. elements step at;
    phases = λ e. absurd (omega (arith, is, e, lt));
    asked = λ e. absurd (omega (arith, is, e, lt));
  }),
)

pub broken_asked : (path : PathText) (i : ℕ) (step : StepText) (line : ℕ) → line ≡ step.line → slice_get path.steps i ≡ Some step →
    AtStep path.steps i (IsLowered path i) → AtStep path.steps i (HasSameLattice path) → AtStep path.steps i (HasSameElements path) →
    AtStep path.steps i (HasSamePhases path) →
    (AtStep path.steps i (AsksLeft path i) → ⊥) → IsLineVerdict (KeepsHead path i step) (Some (line + 6))
broken_asked path i step line is at lowered lattice elements phases off = (
  (λ keeps. off (at_yes (AsksLeft path i) path.steps i step at (keeps.asked (omega (arith, is))))),
  (λ k lt. record {
    temperature = λ e. lowered step at;
    lattice = λ e. lattice step at;
    elements = λ e. elements step at;
    phases = λ e. phases step at;
    asked = λ e. absurd (omega (arith, is, e, lt));
  }),
)
