-- Reading a path line by line.
use Rattle.std.specs.Prelude.{ℕ, ◌-◌, List, [], ◌∷◌, length, Result, Ok, ℤ, codes, map}
use Rattle.cal_limits.specs.declared.TheConstants.{HIGHEST_TEMPERATURE, MOST_NUMBER}
use Rattle.cef_path.specs.declared.limit.TheConstants.{MOST_STEPS, MOST_STOP}
use Rattle.cal_scan.specs.Lines.{Word}
use Rattle.cal_lines.specs.Reading.{Lines, Read, ◌>>=◌, both, of_line, pair}
use Rattle.cal_lines.specs.Choosing.{until, begins_with}
use Rattle.eq_text.specs.Kinds.{two_words_of, natural_after, integers_after}
use Rattle.eq_text.specs.Parsing.{Whole, report_at, fields}
use Rattle.cef_path.specs.declared.finish.Finish.{Finish}
use Rattle.cef_path.specs.declared.step.StepText.{StepText}
use Rattle.cef_path.specs.declared.path.PathText.{PathText}
use Rattle.path_text.specs.Kinds.{name_after, positive_after, floor_of, finish_of}

abbrev pub Head : Type 0
Head = Unit {0} × (Word × (ℕ × (ℕ × ℕ)))

abbrev pub Step : Type 0
Step = ℕ × (Whole × List ℤ)

abbrev pub Ending : Type 0
Ending = Finish × (List ℤ × (List ℤ × List ℤ))

abbrev pub Steps : Type 0
Steps = List Step × Ending

abbrev pub Path : Type 0
Path = Head × Steps

-- how many elements a report and a step are about
abbrev pub elements_in : Whole → ℕ
elements_in w = length w.1.1.1.0

abbrev pub elements_of : Step → ℕ
elements_of s = elements_in s.1.0

unfoldable pub head_at : Read Head
head_at = both pair (of_line (two_words_of (codes "path") (codes "1"))) (λ u. both pair (of_line (name_after (codes "liquid"))) (λ liquid. both pair (of_line (positive_after (codes "descent") HIGHEST_TEMPERATURE)) (λ descent. both pair (of_line floor_of) (λ floor. of_line (natural_after (codes "stop") MOST_STOP)))))

-- a number, a report, and what is left of each of its elements
unfoldable pub step_at : Read Step
step_at = both pair (of_line (positive_after (codes "step") MOST_STEPS)) (λ number. both pair report_at (λ report. of_line (integers_after (codes "left") (elements_in report) MOST_NUMBER)))

-- the lines behind the steps, about so many elements
unfoldable pub ending_at : ℕ → Read Ending
ending_at n = both pair (of_line finish_of) (λ finish. both pair (of_line (integers_after (codes "solids") n MOST_NUMBER)) (λ solids. both pair (of_line (integers_after (codes "remains") n MOST_NUMBER)) (λ remains. of_line (integers_after (codes "lost") n MOST_NUMBER))))

-- a first step, others while a line begins with `step`, and an end about the elements of the first
abbrev pub behind_first : Step → Steps → Steps
behind_first step others = (step ∷ others.0, others.1)

-- other steps while a line begins with `step`, and the end
unfoldable pub others_at : ℕ → Read Steps
others_at n = until (begins_with (codes "step")) step_at (ending_at n) (MOST_STEPS - 1)

unfoldable pub steps_at : Read Steps
steps_at = both behind_first step_at (λ first. others_at (elements_of first))

unfoldable pub path_at : Read Path
path_at = both pair head_at (λ head. steps_at)

-- the fields of a path, in the order of its lines
abbrev pub step_fields : StepText → Step
step_fields s = (s.number, (fields s.report, s.left))

abbrev pub path_fields : PathText → Path
path_fields p = ((tt, (p.liquid, (p.descent, (p.floor, p.stop)))), (map step_fields p.steps, (p.finish, (p.solids, (p.remains, p.lost)))))

-- the step in front of what is read behind it
abbrev pub behind : Step → Result (Steps × Lines) ℕ → Result (Steps × Lines) ℕ
behind first read = read >>= λ x. Ok (behind_first first x.0, x.1)
