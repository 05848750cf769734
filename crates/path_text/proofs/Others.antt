-- the loop over the steps behind the first
use Rattle.std.proofs.Common.{◌≡◌, ℕ, zero, suc, ◌+◌, ◌-◌, ◌<◌, List, [], ◌∷◌, ◌++◌, length, map, Result, Ok, Err, true, refl, sym, ap, ◌∙◌, subst, arith, length-append}
use Rattle.std.specs.Prelude.{codes}
use Rattle.std.specs.List.{flat_map}
use Rattle.std.proofs.lemmas.List.{length_push, append-nil}
use Rattle.cal_scan.specs.Lines.{Line}
use Rattle.cal_lines.specs.Reading.{Lines, ◌>>=◌}
use Rattle.cal_lines.specs.Choosing.{until, begins_with, next_passes}
use Rattle.cal_lines.proofs.Parts.{with_parts_before, until_goes_on, both-needs, of_line-needs, NeedsLine}
use Rattle.cef_path.specs.declared.limit.TheConstants.{MOST_STEPS}
use Rattle.cef_path.specs.declared.step.StepText.{StepText}
use Rattle.cef_path.specs.Texts.{lines_of_step}
use Rattle.cef_path.specs.Spelled.{StandAt}
use Rattle.path_text.specs.Kinds.{finish_of}
use Rattle.path_text.specs.Parsing.{Head, Step, Steps, head_at, step_at, ending_at, others_at, behind, step_fields}
use Rattle.path_text.proofs.Paths.{exact_head, exact_step}
use Rattle.path_text.proofs.Records.{step_same}

abbrev pub with_steps_before : List Step → Result (Steps × Lines) ℕ → Result (Steps × Lines) ℕ
with_steps_before front read = with_parts_before front read

abbrev pub with_others : ℕ → List StepText → Lines → Result (Steps × Lines) ℕ
with_others n steps here = with_steps_before (map step_fields steps) (until (begins_with (codes "step")) step_at (ending_at n) (MOST_STEPS - length steps) here)

-- where the line behind a step is
pub step_next : (s : StepText) (at after : Lines) → step_at at ≡ Ok (step_fields s, after) → after.0 ≡ at.0 + length (lines_of_step s)
step_next s at after e = (exact_step.took at.0 at.1 (step_fields s) after.0 after.1 e).number ∙ ap (λ (ls : List Line). at.0 + length ls) (sym (step_same s))

-- where the line behind a head is
pub head_next : (h : Head) (at after : Lines) → head_at at ≡ Ok (h, after) → after.0 ≡ at.0 + 5
head_next h at after e = (exact_head.took at.0 at.1 h after.0 after.1 e).number

map-push : (xs : List StepText) (y : StepText) → map step_fields (xs ++ y ∷ []) ≡ map step_fields xs ++ step_fields y ∷ []
map-push [] y = refl
map-push (x ∷ xs) y = ap (λ (l : List Step). step_fields x ∷ l) (map-push xs y)

grouped : (a b c : ℕ) → (a + b) + c ≡ a + (b + c)
grouped a b c = omega arith

from_zero : (a b : ℕ) → a ≡ b → a ≡ 0 + b
from_zero a b e = omega (arith, e)

lines_push : (xs : List StepText) (y : StepText) → length (flat_map lines_of_step (xs ++ y ∷ [])) ≡ length (flat_map lines_of_step xs) + length (lines_of_step y)
lines_push [] y = from_zero _ _ (ap length (append-nil (lines_of_step y)))
lines_push (x ∷ xs) y =
    length-append (lines_of_step x) (flat_map lines_of_step (xs ++ y ∷ []))
    ∙ ap (λ (k : ℕ). length (lines_of_step x) + k) (lines_push xs y)
    ∙ sym (grouped (length (lines_of_step x)) (length (flat_map lines_of_step xs)) (length (lines_of_step y)))
    ∙ ap (λ (k : ℕ). k + length (lines_of_step y)) (sym (length-append (lines_of_step x) (flat_map lines_of_step xs)))

stand_push : (n : ℕ) (xs : List StepText) (y : StepText) → StandAt n xs → y.line ≡ n + length (flat_map lines_of_step xs) → StandAt n (xs ++ y ∷ [])
stand_push n [] y stand e = (omega (arith, e), tt)
stand_push n (x ∷ xs) y stand e = (
  stand.0,
  stand_push (n + length (lines_of_step x)) xs y stand.1
      (e ∙ ap (λ (k : ℕ). n + k) (length-append (lines_of_step x) (flat_map lines_of_step xs)) ∙ sym (grouped n (length (lines_of_step x)) (length (flat_map lines_of_step xs)))),
)

first_read : (first : Step) (read : Result (Steps × Lines) ℕ) → with_steps_before (first ∷ []) read ≡ behind first read
first_read first (Ok x) = refl
first_read first (Err e) = refl

pub ending_needs : (n : ℕ) → NeedsLine (ending_at n)
unfolding ending_at
ending_needs n = both-needs _ _ _ (of_line-needs finish_of)

-- These steps are read so far: with them, what is behind them makes the whole; each has the number of its line.
pub record HasRead (n line : ℕ) (steps : List StepText) (here : Lines) (total : Result (Steps × Lines) ℕ) : Type 0 where
  pub reads : with_others n steps here ≡ total
  pub stand : StandAt line steps
  pub number : here.0 ≡ line + length (flat_map lines_of_step steps)

pub begun : (n : ℕ) (first : StepText) (steps : List StepText) (at : Lines) → steps ≡ first ∷ [] → at.0 ≡ first.line + length (lines_of_step first) →
    HasRead n first.line steps at (behind (step_fields first) (others_at n at))
unfolding others_at
begun n first steps at e number =
    subst (λ (l : List StepText). HasRead n first.line l at (behind (step_fields first) (until (begins_with (codes "step")) step_at (ending_at n) (MOST_STEPS - 1) at))) (sym e)
    (record {
      reads = first_read (step_fields first) (until (begins_with (codes "step")) step_at (ending_at n) (MOST_STEPS - 1) at);
      stand = (refl, tt);
      number = number ∙ ap (λ (k : ℕ). first.line + k) (sym (ap length (append-nil (lines_of_step first))));
    })

pub step_on : (n line count : ℕ) (steps steps_after : List StepText) (x : StepText) (at after : Lines) (total : Result (Steps × Lines) ℕ) → steps_after ≡ steps ++ x ∷ [] → count < MOST_STEPS → count ≡ length steps →
    next_passes (begins_with (codes "step")) at.1 ≡ true → step_at at ≡ Ok (step_fields x, after) → x.line ≡ at.0 → HasRead n line steps at total → HasRead n line steps_after after total
step_on n line count steps steps_after x at after total e small c passes read stands so_far =
    subst (λ (l : List StepText). HasRead n line l after total) (sym e)
    (record {
      reads =
          (let longer : length (steps ++ x ∷ []) ≡ length steps + 1 = length_push steps x in
          let more : MOST_STEPS - length steps ≡ suc (MOST_STEPS - length (steps ++ x ∷ [])) = omega (arith, longer, small, c) in
          ap (λ (l : List Step). with_steps_before l (until (begins_with (codes "step")) step_at (ending_at n) (MOST_STEPS - length (steps ++ x ∷ [])) after)) (map-push steps x)
          ∙ until_goes_on (begins_with (codes "step")) step_at (ending_at n) (map step_fields steps) (MOST_STEPS - length steps) (MOST_STEPS - length (steps ++ x ∷ [])) at after (step_fields x) total more passes read so_far.reads);
      stand = stand_push line steps x so_far.stand (stands ∙ so_far.number);
      number =
          step_next x at after read
          ∙ ap (λ (k : ℕ). k + length (lines_of_step x)) so_far.number
          ∙ grouped line (length (flat_map lines_of_step steps)) (length (lines_of_step x))
          ∙ ap (λ (k : ℕ). line + k) (sym (lines_push steps x));
    })
