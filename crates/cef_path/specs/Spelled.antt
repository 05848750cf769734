-- Which paths have a text: the limits of their numbers and lists, and where each step stands in the text.
use Rattle.std.specs.Prelude.{◌≡◌, ℕ, ◌+◌, ◌≤◌, List, [], ◌∷◌, length, true, ℤ}
use Rattle.std.specs.List.{AllByRecursion}
use Rattle.cal_limits.specs.declared.TheConstants.{LOWEST_TEMPERATURE, HIGHEST_TEMPERATURE}
use Rattle.cal_scan.specs.Words.{is_name}
use Rattle.cef_report.specs.Spelled.{IsSpelled, AreNumbers}
use Rattle.cef_path.specs.declared.limit.TheConstants.{MOST_STEPS, MOST_STOP}
use Rattle.cef_path.specs.declared.step.StepText.{StepText}
use Rattle.cef_path.specs.declared.path.PathText.{PathText}
use Rattle.cef_path.specs.Texts.{lines_of_step}

pub record IsSpelledStep (s : StepText) : Type 0 where
  pub number_low : 1 ≤ s.number
  pub number_high : s.number ≤ MOST_STEPS
  pub report : IsSpelled s.report
  pub left : AreNumbers (length s.report.elements) s.left

-- one step or more, and in each list a number for each element of the first
abbrev pub AreNumbersOfFirst : List StepText → List (List ℤ) → Type 0
AreNumbersOfFirst [] lists = ⊥
AreNumbersOfFirst (s ∷ ss) lists = AllByRecursion (AreNumbers (length s.report.elements)) lists

-- each step begins where the one before it ends, the first at line n
abbrev pub StandAt : ℕ → List StepText → Type 0
StandAt n [] = Unit {0}
StandAt n (s ∷ ss) = (s.line ≡ n) × StandAt (n + length (lines_of_step s)) ss

-- the first line behind the head, which has five
abbrev pub first_step_line : ℕ
first_step_line = 6

pub record IsSpelledPath (p : PathText) : Type 0 where
  pub liquid : is_name p.liquid ≡ true
  pub descent_low : 1 ≤ p.descent
  pub descent_high : p.descent ≤ HIGHEST_TEMPERATURE
  pub floor_low : LOWEST_TEMPERATURE ≤ p.floor
  pub floor_high : p.floor ≤ HIGHEST_TEMPERATURE
  pub stop : p.stop ≤ MOST_STOP
  pub few_steps : length p.steps ≤ MOST_STEPS
  pub steps : AllByRecursion IsSpelledStep p.steps
  pub lists : AreNumbersOfFirst p.steps (p.solids ∷ p.remains ∷ p.lost ∷ [])
  pub stand : StandAt first_step_line p.steps
