-- Why the ledger of a path balances: what each step asks is what the one before left.
use Rattle.std.proofs.Common.{◌≡◌, ℕ, zero, suc, ◌+◌, ◌-◌, ◌<◌, List, [], ◌∷◌, length, refl, sym, ap, ◌∙◌, subst, arith, Option, Some, None, filter, Bool, true, false, not, slice_get}
use Rattle.std.specs.Prelude.{ℤ, pos, ◌+ℤ◌, ◌-ℤ◌, ◌*ℤ◌}
use Rattle.std.specs.Option.{option_map_or}
use Rattle.std.proofs.lemmas.Int.{ints}
use Rattle.cal_math.specs.Sums.{sum_of}
use Rattle.cal_math.specs.Vectors.{at}
use Rattle.cal_scan.specs.Lines.{Word}
use Rattle.cef_core.specs.declared.system.System.{System}
use Rattle.cef_report.specs.declared.entry.Entry.{Entry}
use Rattle.cef_report.specs.declared.report.Report.{Report}
use Rattle.cef_report.specs.Assemblages.{total, content_of}
use Rattle.cef_report.specs.Holding.{Holds}
use Rattle.cef_report.specs.Spelled.{IsSpelled}
use Rattle.cef_path.specs.declared.start.PathStart.{PathStart}
use Rattle.cef_path.specs.declared.step.StepText.{StepText}
use Rattle.cef_path.specs.declared.path.PathText.{PathText}
use Rattle.cef_path.specs.Ledgers.{is_of, solid_total, IsLeft}
use Rattle.cef_path.specs.Paths.{asked_at, IsStep, solids_of, lost_of, PathHolds}

pub parted : (f : Entry → ℤ) (p : Entry → Bool) (entries : List Entry) → sum_of f entries ≡ sum_of f (filter p entries) +ℤ sum_of f (filter (λ e. not (p e)) entries)
parted f p [] = refl
parted f p (e ∷ es) = by (p e) refl (parted f p es)
  where
    by : (b : Bool) → p e ≡ b → sum_of f es ≡ sum_of f (filter p es) +ℤ sum_of f (filter (λ x. not (p x)) es) → sum_of f (e ∷ es) ≡ sum_of f (filter p (e ∷ es)) +ℤ sum_of f (filter (λ x. not (p x)) (e ∷ es))
    by true is h = rw is (omega (arith, ints, h))
    by false is h = rw is (omega (arith, ints, h))

-- what a step does with what is asked of it
pub record Divides (systems : ℕ → System) (liquid : Word) (asked : List ℤ) (s : StepText) : Type 0 where
  pub asked_are : s.report.asked ≡ asked
  pub one_each : length s.left ≡ length asked
  pub parts : (c : ℕ) → c < length asked → at s.report.totals c ≡ solid_total (systems s.report.t) liquid s.report c +ℤ at s.left c

divided : (systems : ℕ → System) (liquid : Word) (asked : List ℤ) (s : StepText) → Holds (systems s.report.t) asked s.report → IsLeft (systems s.report.t) liquid s.report s.left → IsSpelled s.report → Divides systems liquid asked s
divided systems liquid asked s holds left spelled =
    let of_elements : length asked ≡ length s.report.elements = ap length (sym holds.asked_are) ∙ spelled.asked.0 in
    record {
      asked_are = holds.asked_are;
      one_each = left.one_each ∙ sym of_elements;
      parts = λ c lt.
          let system = systems s.report.t in
          let within : c < length system.elements = omega (arith, lt, of_elements, ap length holds.same_elements) in
          let all = holds.totals_are c within in
          let part = left.totals_are c (omega (arith, lt, of_elements, left.one_each)) in
          let both = parted (λ entry. entry.amount *ℤ content_of system entry c) (λ entry. is_of s.report.phases liquid entry) s.report.entries in
          omega (arith, ints, all, part, both);
    }

solids : (ℕ → System) → Word → List StepText → ℕ → ℤ
solids systems liquid steps c = sum_of (λ step. solid_total (systems step.report.t) liquid step.report c) steps

next_asked : (asked : List ℤ) (s : StepText) (ss : List StepText) (i : ℕ) → asked_at asked (s ∷ ss) (suc i) ≡ asked_at s.left ss i
next_asked asked s ss zero = refl
next_asked asked s ss (suc i) = refl

sums : (systems : ℕ → System) (liquid : Word) (asked : List ℤ) (steps : List StepText) → ((i : ℕ) (s : StepText) → slice_get steps i ≡ Some s → Divides systems liquid (asked_at asked steps i) s) → (c : ℕ) → c < length asked →
    at asked c ≡ (solids systems liquid steps c +ℤ at (asked_at asked steps (length steps)) c) +ℤ lost_of steps c
unfolding solids
sums systems liquid asked [] each c lt = omega (arith, ints)
sums systems liquid asked (s ∷ ss) each c lt =
    let first = each 0 s refl in
    let rest = sums systems liquid s.left ss (λ i x e. subst (λ (l : List ℤ). Divides systems liquid l x) (next_asked asked s ss i) (each (suc i) x e)) c (omega (arith, lt, first.one_each)) in
    let part = first.parts c lt in
    let is_asked = ap (λ (l : List ℤ). at l c) first.asked_are in
    let last = ap (λ (l : List ℤ). at l c) (next_asked asked s ss (length ss)) in
    omega (arith, ints, rest, part, is_asked, last)

pub last_left : (asked : List ℤ) (steps : List StepText) (last : StepText) → slice_get steps (length steps - 1) ≡ Some last → asked_at asked steps (length steps) ≡ last.left
last_left asked [] last e = absurd cc
last_left asked (s ∷ ss) last e =
    let longer : length (s ∷ ss) ≡ suc (length ss) = omega arith in
    let here : length (s ∷ ss) - 1 ≡ length ss = omega arith in
    ap (λ (k : ℕ). asked_at asked (s ∷ ss) k) longer
    ∙ ap (λ (o : Option StepText). option_map_or (λ (step : StepText). step.left) o []) (subst (λ (k : ℕ). slice_get (s ∷ ss) k ≡ Some last) here e)

pub balanced : (systems : ℕ → System) (start : PathStart) (path : PathText) → PathHolds systems start path → (c : ℕ) → c < length start.asked →
    at start.asked c ≡ (at path.solids c +ℤ at path.remains c) +ℤ at path.lost c
unfolding solids
balanced systems start path is c lt =
    let whole = sums systems start.liquid start.asked path.steps (λ i s e. let step = is.steps_hold i s e in divided systems start.liquid (asked_at start.asked path.steps i) s step.holds step.left step.spelled) c lt in
    let became_solid = is.solids_are c lt in
    let was_lost = is.lost_are c lt in
    let remains = ap (λ (l : List ℤ). at l c) is.remains_are in
    let left = ap (λ (l : List ℤ). at l c) (last_left start.asked path.steps is.last is.is_last) in
    omega (arith, ints, whole, became_solid, was_lost, remains, left)
