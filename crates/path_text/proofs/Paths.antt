-- The reader of paths is exact.
use Rattle.std.proofs.Common.{◌≡◌, ℕ, zero, suc, ◌≤◌, ◌^◌, Bool, true, false, List, [], ◌∷◌, ◌++◌, ◌-◌, length, map, Some, None, Ok, Err, refl, sym, ap, ◌∙◌, subst, arith, append_assoc}
use Rattle.std.specs.Prelude.{ℤ, codes}
use Rattle.std.specs.List.{AllByRecursion, flat_map}
use Rattle.std.specs.Fmt.{decimal}
use Rattle.cal_scan.specs.Words.{same_word}
use Rattle.cef_report.specs.Spelled.{AreNumbers}
use Rattle.cal_limits.specs.declared.TheConstants.{HIGHEST_TEMPERATURE, MOST_NUMBER}
use Rattle.cef_path.specs.declared.limit.TheConstants.{MOST_STEPS, MOST_STOP}
use Rattle.cal_scan.specs.Lines.{Word, Line, line}
use Rattle.cef_report.specs.Texts.{number_words}
use Rattle.cal_lines.specs.Reading.{both, pair, of_line}
use Rattle.cal_lines.specs.Choosing.{until, begins_with}
use Rattle.cal_lines.proofs.Algebra.{Exact, ExactWhole, exact_both, exact_pair, exact_whole}
use Rattle.cal_lines.proofs.Choices.{Begins, until_lines, UntilFits, exact_until}
use Rattle.cal_lines.proofs.Firsts.{line-begins, pair-begins}
use Rattle.cal_lines.proofs.Lines.{exact_line}
use Rattle.cal_lines.proofs.Sorts.{plain_from}
use Rattle.eq_text.specs.Kinds.{two_words_of, natural_after, integers_after}
use Rattle.eq_text.specs.Parsing.{Whole, report_at}
use Rattle.eq_text.proofs.Sayings.{AnyUnit, two_fixed, two_words_kind, natural_words, natural_kind, IsTemperature, numbers_kind}
use Rattle.eq_text.proofs.Reports.{one_line, whole_lines, IsWhole, exact_report}
use Rattle.cef_path.specs.declared.finish.Finish.{Finish}
use Rattle.cef_path.specs.Texts.{finish_word}
use Rattle.path_text.specs.Kinds.{name_after, positive_after, floor_of, finish_of}
use Rattle.path_text.specs.Parsing.{Head, Step, Ending, Steps, Path, elements_in, elements_of, head_at, step_at, ending_at, others_at, behind_first, steps_at, path_at}
use Rattle.path_text.proofs.Sayings.{word_after, IsName, name_kind, IsUpFromOne, positive_kind, floor_kind, AnyFinish, finish_words, finish_kind}

-- a line of a key and so many numbers
exact_numbers : (key : Word) (n : ℕ) → (Rattle.cal_lines.proofs.Lines.IsWord key) → Exact (one_line (number_words key)) (AreNumbers n) (of_line (integers_after key n MOST_NUMBER))
exact_numbers key n is = exact_line (number_words key) (AreNumbers n) (integers_after key n MOST_NUMBER) (numbers_kind key n is)

-- ---- the head

abbrev pub HeadFits : Head → Type 0
HeadFits h = AnyUnit h.0 × (IsName h.1.0 × (IsUpFromOne HIGHEST_TEMPERATURE h.1.1.0 × (IsTemperature h.1.1.1.0 × (h.1.1.1.1 ≤ MOST_STOP))))

abbrev pub head_spelled : Head → List Line
head_spelled h = one_line (two_fixed (codes "path") (codes "1")) h.0 ++ (one_line (word_after (codes "liquid")) h.1.0 ++ (one_line (natural_words (codes "descent")) h.1.1.0 ++ (one_line (natural_words (codes "floor")) h.1.1.1.0 ++ one_line (natural_words (codes "stop")) h.1.1.1.1)))

pub exact_head : Exact head_spelled HeadFits head_at
unfolding head_at
exact_head =
    let stop = exact_line (natural_words (codes "stop")) (λ n. n ≤ MOST_STOP) (natural_after (codes "stop") MOST_STOP) (natural_kind (codes "stop") MOST_STOP (plain_from (codes "stop") refl) (omega arith)) in
    let floor = exact_pair (one_line (natural_words (codes "floor"))) IsTemperature (of_line floor_of) (λ f. one_line (natural_words (codes "stop"))) (λ f n. n ≤ MOST_STOP) (λ f. of_line (natural_after (codes "stop") MOST_STOP))
    (exact_line (natural_words (codes "floor")) IsTemperature floor_of floor_kind) (λ f fits. stop) in
    let descent = exact_pair (one_line (natural_words (codes "descent"))) (IsUpFromOne HIGHEST_TEMPERATURE) (of_line (positive_after (codes "descent") HIGHEST_TEMPERATURE)) (λ d (x : ℕ × ℕ). one_line (natural_words (codes "floor")) x.0 ++ one_line (natural_words (codes "stop")) x.1) (λ d (x : ℕ × ℕ). IsTemperature x.0 × (x.1 ≤ MOST_STOP)) (λ d. both pair (of_line floor_of) (λ f. of_line (natural_after (codes "stop") MOST_STOP)))
    (exact_line (natural_words (codes "descent")) (IsUpFromOne HIGHEST_TEMPERATURE) (positive_after (codes "descent") HIGHEST_TEMPERATURE) (positive_kind (codes "descent") HIGHEST_TEMPERATURE (plain_from (codes "descent") refl) (omega arith) (omega arith))) (λ d fits. floor) in
    let liquid = exact_pair (one_line (word_after (codes "liquid"))) IsName (of_line (name_after (codes "liquid"))) (λ l (x : ℕ × (ℕ × ℕ)). one_line (natural_words (codes "descent")) x.0 ++ (one_line (natural_words (codes "floor")) x.1.0 ++ one_line (natural_words (codes "stop")) x.1.1)) (λ l (x : ℕ × (ℕ × ℕ)). IsUpFromOne HIGHEST_TEMPERATURE x.0 × (IsTemperature x.1.0 × (x.1.1 ≤ MOST_STOP)))
    (λ l. both pair (of_line (positive_after (codes "descent") HIGHEST_TEMPERATURE)) (λ d. both pair (of_line floor_of) (λ f. of_line (natural_after (codes "stop") MOST_STOP))))
    (exact_line (word_after (codes "liquid")) IsName (name_after (codes "liquid")) (name_kind (codes "liquid") (plain_from (codes "liquid") refl))) (λ l fits. descent) in
    exact_pair (one_line (two_fixed (codes "path") (codes "1"))) AnyUnit (of_line (two_words_of (codes "path") (codes "1"))) (λ u (x : Word × (ℕ × (ℕ × ℕ))). one_line (word_after (codes "liquid")) x.0 ++ (one_line (natural_words (codes "descent")) x.1.0 ++ (one_line (natural_words (codes "floor")) x.1.1.0 ++ one_line (natural_words (codes "stop")) x.1.1.1))) (λ u (x : Word × (ℕ × (ℕ × ℕ))). IsName x.0 × (IsUpFromOne HIGHEST_TEMPERATURE x.1.0 × (IsTemperature x.1.1.0 × (x.1.1.1 ≤ MOST_STOP))))
    (λ u. both pair (of_line (name_after (codes "liquid"))) (λ l. both pair (of_line (positive_after (codes "descent") HIGHEST_TEMPERATURE)) (λ d. both pair (of_line floor_of) (λ f. of_line (natural_after (codes "stop") MOST_STOP)))))
    (exact_line (two_fixed (codes "path") (codes "1")) AnyUnit (two_words_of (codes "path") (codes "1")) (two_words_kind (codes "path") (codes "1") (plain_from (codes "path") refl) (plain_from (codes "1") refl))) (λ u fits. liquid)

-- ---- a step

abbrev pub reported_lines : Whole × List ℤ → List Line
reported_lines x = whole_lines x.0 ++ one_line (number_words (codes "left")) x.1

abbrev pub ReportedFits : Whole × List ℤ → Type 0
ReportedFits x = IsWhole x.0 × AreNumbers (elements_in x.0) x.1

abbrev pub step_spelled : Step → List Line
step_spelled s = one_line (natural_words (codes "step")) s.0 ++ reported_lines s.1

abbrev pub StepFits : Step → Type 0
StepFits s = IsUpFromOne MOST_STEPS s.0 × ReportedFits s.1

pub exact_step : Exact step_spelled StepFits step_at
unfolding step_at
exact_step =
    exact_pair (one_line (natural_words (codes "step"))) (IsUpFromOne MOST_STEPS) (of_line (positive_after (codes "step") MOST_STEPS)) (λ n. reported_lines) (λ n. ReportedFits) (λ n. both pair report_at (λ report. of_line (integers_after (codes "left") (elements_in report) MOST_NUMBER)))
    (exact_line (natural_words (codes "step")) (IsUpFromOne MOST_STEPS) (positive_after (codes "step") MOST_STEPS) (positive_kind (codes "step") MOST_STEPS (plain_from (codes "step") refl) (omega arith) (omega arith)))
    (λ n fits. exact_pair whole_lines IsWhole report_at (λ w. one_line (number_words (codes "left"))) (λ w. AreNumbers (elements_in w)) (λ w. of_line (integers_after (codes "left") (elements_in w) MOST_NUMBER))
    exact_report (λ w fits. exact_numbers (codes "left") (elements_in w) (plain_from (codes "left") refl)))

-- ---- the end

abbrev pub ending_spelled : Ending → List Line
ending_spelled e = one_line finish_words e.0 ++ (one_line (number_words (codes "solids")) e.1.0 ++ (one_line (number_words (codes "remains")) e.1.1.0 ++ one_line (number_words (codes "lost")) e.1.1.1))

abbrev pub EndingFits : ℕ → Ending → Type 0
EndingFits n e = AnyFinish e.0 × (AreNumbers n e.1.0 × (AreNumbers n e.1.1.0 × AreNumbers n e.1.1.1))

pub exact_ending : (n : ℕ) → Exact ending_spelled (EndingFits n) (ending_at n)
unfolding ending_at
exact_ending n =
    let remains = exact_pair (one_line (number_words (codes "remains"))) (AreNumbers n) (of_line (integers_after (codes "remains") n MOST_NUMBER)) (λ r. one_line (number_words (codes "lost"))) (λ r. AreNumbers n) (λ r. of_line (integers_after (codes "lost") n MOST_NUMBER))
    (exact_numbers (codes "remains") n (plain_from (codes "remains") refl)) (λ r fits. exact_numbers (codes "lost") n (plain_from (codes "lost") refl)) in
    let solids = exact_pair (one_line (number_words (codes "solids"))) (AreNumbers n) (of_line (integers_after (codes "solids") n MOST_NUMBER)) (λ s (x : List ℤ × List ℤ). one_line (number_words (codes "remains")) x.0 ++ one_line (number_words (codes "lost")) x.1) (λ s (x : List ℤ × List ℤ). AreNumbers n x.0 × AreNumbers n x.1)
    (λ s. both pair (of_line (integers_after (codes "remains") n MOST_NUMBER)) (λ r. of_line (integers_after (codes "lost") n MOST_NUMBER)))
    (exact_numbers (codes "solids") n (plain_from (codes "solids") refl)) (λ s fits. remains) in
    exact_pair (one_line finish_words) AnyFinish (of_line finish_of) (λ f (x : List ℤ × (List ℤ × List ℤ)). one_line (number_words (codes "solids")) x.0 ++ (one_line (number_words (codes "remains")) x.1.0 ++ one_line (number_words (codes "lost")) x.1.1)) (λ f (x : List ℤ × (List ℤ × List ℤ)). AreNumbers n x.0 × (AreNumbers n x.1.0 × AreNumbers n x.1.1))
    (λ f. both pair (of_line (integers_after (codes "solids") n MOST_NUMBER)) (λ s. both pair (of_line (integers_after (codes "remains") n MOST_NUMBER)) (λ r. of_line (integers_after (codes "lost") n MOST_NUMBER))))
    (exact_line finish_words AnyFinish finish_of finish_kind) (λ f fits. solids)

-- ---- the steps and the end

step_begins : Begins step_spelled StepFits (begins_with (codes "step")) true
step_begins =
    pair-begins (one_line (natural_words (codes "step"))) (IsUpFromOne MOST_STEPS) (λ n. reported_lines) (λ n. ReportedFits) (begins_with (codes "step")) true
    (line-begins (natural_words (codes "step")) (IsUpFromOne MOST_STEPS) (codes "step") (codes "step") (λ n. decimal n ∷ []) true (λ n fits. refl)
    (λ n fits. (positive_kind (codes "step") MOST_STEPS (plain_from (codes "step") refl) (omega arith) (omega arith)).plain n fits) (unfold same_word in refl))

ending_begins : (n : ℕ) → Begins ending_spelled (EndingFits n) (begins_with (codes "step")) false
ending_begins n =
    pair-begins (one_line finish_words) AnyFinish (λ f (x : List ℤ × (List ℤ × List ℤ)). one_line (number_words (codes "solids")) x.0 ++ (one_line (number_words (codes "remains")) x.1.0 ++ one_line (number_words (codes "lost")) x.1.1)) (λ f (x : List ℤ × (List ℤ × List ℤ)). AreNumbers n x.0 × (AreNumbers n x.1.0 × AreNumbers n x.1.1)) (begins_with (codes "step")) false
    (line-begins finish_words AnyFinish (codes "step") (codes "finish") (λ f. finish_word f ∷ []) false (λ f fits. refl) (λ f fits. finish_kind.plain f fits) (unfold same_word in refl))

abbrev pub steps_spelled : Steps → List Line
steps_spelled s = flat_map step_spelled s.0 ++ ending_spelled s.1

abbrev pub EndingFitsFirst : List Step → Ending → Type 0
EndingFitsFirst [] e = ⊥
EndingFitsFirst (s ∷ ss) e = EndingFits (elements_of s) e

abbrev pub StepsFit : Steps → Type 0
StepsFit s = (length s.0 ≤ MOST_STEPS) × AllByRecursion StepFits s.0 × EndingFitsFirst s.0 s.1

pub exact_steps : Exact steps_spelled StepsFit steps_at
unfolding steps_at others_at
exact_steps =
    exact_both behind_first step_spelled StepFits step_at (λ s. until_lines step_spelled ending_spelled) (λ s. UntilFits StepFits (EndingFits (elements_of s)) (MOST_STEPS - 1)) (λ s. others_at (elements_of s)) steps_spelled StepsFit
    (record {
      parts = λ c fits. parts c.0 c.1 fits;
      fits = λ s t fs ft. (omega (arith, ft.0), (fs, ft.1), ft.2);
      spells = λ s t fs ft. append_assoc (step_spelled s) (flat_map step_spelled t.0) (ending_spelled t.1);
    })
    exact_step
    (λ s fits. exact_until (begins_with (codes "step")) step_spelled StepFits step_at ending_spelled (EndingFits (elements_of s)) (ending_at (elements_of s)) exact_step (exact_ending (elements_of s)) step_begins (ending_begins (elements_of s)) (MOST_STEPS - 1))
  where
    parts : (ss : List Step) (e : Ending) → StepsFit (ss, e) → (a : Step) × (b : Steps) × StepFits a × UntilFits StepFits (EndingFits (elements_of a)) (MOST_STEPS - 1) b × ((ss, e) ≡ behind_first a b)
    parts [] e fits = absurd fits.2
    parts (s ∷ ss) e fits = let few = fits.0 in (s, (ss, e), fits.1.0, (omega (arith, few), fits.1.1, fits.2), refl)

-- ---- the whole

abbrev pub path_spelled : Path → List Line
path_spelled p = head_spelled p.0 ++ steps_spelled p.1

abbrev pub PathFits : Path → Type 0
PathFits p = HeadFits p.0 × StepsFit p.1

pub exact_path : Exact path_spelled PathFits path_at
unfolding path_at
exact_path = exact_pair head_spelled HeadFits head_at (λ h. steps_spelled) (λ h. StepsFit) (λ h. steps_at) exact_head (λ h fits. exact_steps)
