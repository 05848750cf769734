-- paths as records and as the fields of their lines
use Rattle.std.proofs.Common.{◌≡◌, ℕ, suc, ◌+◌, ◌≤◌, List, [], ◌∷◌, ◌++◌, length, map, refl, sym, ap, ◌∙◌, subst, arith}
use Rattle.std.specs.Prelude.{codes}
use Rattle.std.specs.List.{AllByRecursion, flat_map}
use Rattle.std.specs.Fmt.{decimal}
use Rattle.cal_scan.specs.Lines.{Line, line}
use Rattle.cef_report.specs.Texts.{number_words}
use Rattle.eq_text.proofs.Reports.{report_from, is_spelled, is_whole, seen as report_seen}
use Rattle.cef_path.specs.declared.step.StepText.{StepText}
use Rattle.cef_path.specs.declared.path.PathText.{PathText}
use Rattle.cef_path.specs.Texts.{head_lines, finish_lines, path_lines, lines_of_step}
use Rattle.cef_path.specs.Spelled.{IsSpelledStep, AreNumbersOfFirst, StandAt, first_step_line, IsSpelledPath}
use Rattle.path_text.specs.Parsing.{Step, Path, step_fields, path_fields}
use Rattle.path_text.proofs.Paths.{StepFits, EndingFitsFirst, PathFits, step_spelled, path_spelled}

pub step_same : (s : StepText) → lines_of_step s ≡ step_spelled (step_fields s)
step_same s = ap (λ (ls : List Line). line (codes "step" ∷ decimal s.number ∷ []) ∷ (ls ++ line (number_words (codes "left") s.left) ∷ [])) (report_seen.spells s.report)

-- a step whose first line has the number n
abbrev pub step_from : ℕ → Step → StepText
step_from n s = record { number = s.0; report = report_from s.1.0; left = s.1.1; line = n }

-- steps one behind the other, the first at line n
pub steps_from : ℕ → List Step → List StepText
steps_from n [] = []
steps_from n (s ∷ ss) = step_from n s ∷ steps_from (n + length (step_spelled s)) ss

abbrev pub path_from : Path → PathText
path_from p = record {
  liquid = p.0.1.0;
  descent = p.0.1.1.0;
  floor = p.0.1.1.1.0;
  stop = p.0.1.1.1.1;
  steps = steps_from first_step_line p.1.0;
  finish = p.1.1.0;
  solids = p.1.1.1.0;
  remains = p.1.1.1.1.0;
  lost = p.1.1.1.1.1;
}

there : (n : ℕ) (ss : List Step) → map step_fields (steps_from n ss) ≡ ss
unfolding steps_from
there n [] = refl
there n (s ∷ ss) = ap (λ (l : List Step). s ∷ l) (there (n + length (step_spelled s)) ss)

back : (n : ℕ) (ss : List StepText) → StandAt n ss → steps_from n (map step_fields ss) ≡ ss
unfolding steps_from
back n [] stand = refl
back n (s ∷ ss) stand =
    let longer : n + length (step_spelled (step_fields s)) ≡ n + length (lines_of_step s) = ap (λ (ls : List Line). n + length ls) (sym (step_same s)) in
    ap (λ (k : ℕ). step_from k (step_fields s) ∷ steps_from (n + length (step_spelled (step_fields s))) (map step_fields ss)) (sym stand.0)
    ∙ ap (λ (l : List StepText). s ∷ l) (ap (λ (k : ℕ). steps_from k (map step_fields ss)) longer ∙ back (n + length (lines_of_step s)) ss stand.1)

stands : (n : ℕ) (ss : List Step) → StandAt n (steps_from n ss)
unfolding steps_from
stands n [] = tt
stands n (s ∷ ss) =
    let longer : n + length (step_spelled s) ≡ n + length (lines_of_step (step_from n s)) = ap (λ (ls : List Line). n + length ls) (sym (step_same (step_from n s))) in
    (refl, subst (λ (k : ℕ). StandAt k (steps_from (n + length (step_spelled s)) ss)) longer (stands (n + length (step_spelled s)) ss))

lines_same : (ss : List StepText) → flat_map lines_of_step ss ≡ flat_map step_spelled (map step_fields ss)
lines_same [] = refl
lines_same (s ∷ ss) = ap (λ (ls : List Line). ls ++ flat_map lines_of_step ss) (step_same s) ∙ ap (λ (ls : List Line). step_spelled (step_fields s) ++ ls) (lines_same ss)

steps_to : (ss : List StepText) → AllByRecursion IsSpelledStep ss → AllByRecursion StepFits (map step_fields ss)
steps_to [] all = tt
steps_to (s ∷ ss) all = (((all.0.number_low, all.0.number_high), (is_whole s.report all.0.report, all.0.left)), steps_to ss all.1)

steps_back : (ss : List StepText) → AllByRecursion StepFits (map step_fields ss) → AllByRecursion IsSpelledStep ss
steps_back [] all = tt
steps_back (s ∷ ss) all = (record { number_low = all.0.0.0; number_high = all.0.0.1; report = is_spelled s.report all.0.1.0; left = all.0.1.1 }, steps_back ss all.1)

lists_to : (ss : List StepText) (p : PathText) → AreNumbersOfFirst ss (p.solids ∷ p.remains ∷ p.lost ∷ []) → EndingFitsFirst (map step_fields ss) (p.finish, (p.solids, (p.remains, p.lost)))
lists_to [] p is = absurd is
lists_to (s ∷ ss) p is = (tt, (is.0, (is.1.0, is.1.1.0)))

lists_back : (ss : List StepText) (p : PathText) → EndingFitsFirst (map step_fields ss) (p.finish, (p.solids, (p.remains, p.lost))) → AreNumbersOfFirst ss (p.solids ∷ p.remains ∷ p.lost ∷ [])
lists_back [] p is = absurd is
lists_back (s ∷ ss) p is = (is.1.0, (is.1.1.0, (is.1.1.1, tt)))

length_map : (ss : List StepText) → length (map step_fields ss) ≡ length ss
length_map [] = refl
length_map (s ∷ ss) = ap suc (length_map ss)

pub to_fits : (p : PathText) → IsSpelledPath p → PathFits (path_fields p)
to_fits p s = (
  (tt, (s.liquid, ((s.descent_low, s.descent_high), ((s.floor_low, s.floor_high), s.stop)))),
  (let few = s.few_steps in omega (arith, few, length_map p.steps), steps_to p.steps s.steps, lists_to p.steps p s.lists),
)

pub from_fits : (p : PathText) → PathFits (path_fields p) → StandAt first_step_line p.steps → IsSpelledPath p
from_fits p f stand = record {
  liquid = f.0.1.0;
  descent_low = f.0.1.1.0.0;
  descent_high = f.0.1.1.0.1;
  floor_low = f.0.1.1.1.0.0;
  floor_high = f.0.1.1.1.0.1;
  stop = f.0.1.1.1.1;
  few_steps = let few = f.1.0 in omega (arith, few, length_map p.steps);
  steps = steps_back p.steps f.1.1;
  lists = lists_back p.steps p f.1.2;
  stand = stand;
}

pub path_there : (y : Path) → path_fields (path_from y) ≡ y
path_there y = ap (λ (ss : List Step). (y.0, (ss, y.1.1))) (there first_step_line y.1.0)

pub path_back : (p : PathText) → StandAt first_step_line p.steps → path_from (path_fields p) ≡ p
path_back p stand = ap (λ (ss : List StepText). record p { steps = ss }) (back first_step_line p.steps stand)

pub path_stands : (y : Path) → StandAt first_step_line (path_from y).steps
path_stands y = stands first_step_line y.1.0

pub path_spells : (p : PathText) → path_lines p ≡ path_spelled (path_fields p)
path_spells p = ap (λ (ls : List Line). head p ++ (ls ++ end p)) (lines_same p.steps)
  where
    head : PathText → List Line
    head p = head_lines p.liquid p.descent p.floor p.stop

    end : PathText → List Line
    end p = finish_lines p.finish p.solids p.remains p.lost
