-- Where the steps of a path stand in its text.
use Rattle.std.proofs.Common.{◌≡◌, ℕ, zero, suc, ◌+◌, ◌<◌, ◌≤◌, List, [], ◌∷◌, ◌++◌, length, slice_get, Some, refl, arith, ap, sym, ◌∙◌, subst}
use Rattle.std.specs.List.{flat_map}
use Rattle.std.proofs.lemmas.List.{length-append}
use Rattle.std.specs.Prelude.{codes}
use Rattle.cal_scan.specs.Lines.{line}
use Rattle.cef_report.specs.Texts.{lines, number_words}
use Rattle.cef_path.specs.declared.step.StepText.{StepText}
use Rattle.cef_path.specs.Spelled.{StandAt}
use Rattle.cef_path.specs.Texts.{lines_of_step}
use Rattle.cal_check.specs.Paths.{left_line, report_line}

step_length : (s : StepText) → length (lines_of_step s) ≡ length (lines s.report) + 2
step_length s = omega (arith, length-append (lines s.report) (line (number_words (codes "left") s.left) ∷ []))

all_length : (s : StepText) (ss : List StepText) → length (flat_map lines_of_step (s ∷ ss)) ≡ length (lines_of_step s) + length (flat_map lines_of_step ss)
all_length s ss = length-append (lines_of_step s) (flat_map lines_of_step ss)

-- a step stands behind the line where the steps begin, and in front of the one where they end
pub behind : (n : ℕ) (steps : List StepText) (i : ℕ) (s : StepText) → StandAt n steps → slice_get steps i ≡ Some s → n ≤ s.line
behind n [] i s stand e = absurd cc
behind n (x ∷ steps) zero s stand e = let same : x ≡ s = cc in subst (λ (y : StepText). n ≤ y.line) same (omega (arith, stand.0))
behind n (x ∷ steps) (suc i) s stand e = omega (arith, behind (n + length (lines_of_step x)) steps i s stand.1 e)

pub ahead : (n : ℕ) (steps : List StepText) (i : ℕ) (s : StepText) → StandAt n steps → slice_get steps i ≡ Some s → left_line s < n + length (flat_map lines_of_step steps)
ahead n [] i s stand e = absurd cc
ahead n (x ∷ steps) zero s stand e =
    let same : x ≡ s = cc in
    subst (λ (y : StepText). left_line y < n + length (flat_map lines_of_step (x ∷ steps))) same
    (omega (arith, stand.0, step_length x, all_length x steps))
ahead n (x ∷ steps) (suc i) s stand e = omega (arith, ahead (n + length (lines_of_step x)) steps i s stand.1 e, all_length x steps)

-- the steps behind a step stand behind its last line
pub apart : (n : ℕ) (steps : List StepText) (i j : ℕ) (s t : StepText) → StandAt n steps → slice_get steps i ≡ Some s → slice_get steps j ≡ Some t → i < j → left_line s < t.line
apart n [] i j s t stand e f lt = absurd cc
apart n (x ∷ steps) i zero s t stand e f lt = absurd (omega (arith, lt))
apart n (x ∷ steps) zero (suc j) s t stand e f lt =
    let same : x ≡ s = cc in
    subst (λ (y : StepText). left_line y < t.line) same
    (omega (arith, stand.0, step_length x, behind (n + length (lines_of_step x)) steps j t stand.1 f))
apart n (x ∷ steps) (suc i) (suc j) s t stand e f lt = apart (n + length (lines_of_step x)) steps i j s t stand.1 e f (omega (arith, lt))

-- behind the last step the steps end
pub ends : (n : ℕ) (steps : List StepText) (i : ℕ) (s : StepText) → StandAt n steps → slice_get steps i ≡ Some s → i + 1 ≡ length steps → left_line s + 1 ≡ n + length (flat_map lines_of_step steps)
ends n [] i s stand e last = absurd cc
ends n (x ∷ []) zero s stand e last =
    let same : x ≡ s = cc in
    subst (λ (y : StepText). left_line y + 1 ≡ n + length (flat_map lines_of_step (x ∷ []))) same
    (omega (arith, stand.0, step_length x, all_length x []))
ends n (x ∷ y ∷ steps) zero s stand e last = absurd (omega (arith, last))
ends n (x ∷ steps) (suc i) s stand e last = omega (arith, ends (n + length (lines_of_step x)) steps i s stand.1 e (omega (arith, last)), all_length x steps)
