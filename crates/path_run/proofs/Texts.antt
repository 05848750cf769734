-- Texts that are appended one behind the other.
use Rattle.std.proofs.Common.{◌≡◌, ℕ, zero, suc, ◌+◌, ◌-◌, List, [], ◌∷◌, ◌++◌, length, refl, sym, ap}
use Rattle.std.proofs.Common.{◌∙◌, arith, Option, Some, None, append_assoc, append-nil}
use Rattle.std.specs.Prelude.{ℤ}
use Rattle.std.specs.List.{flat_map}
use Rattle.cal_base.specs.Outside.{append_told, AppendsAllBut}
use Rattle.cef_path.specs.declared.path.PathText.{PathText}
use Rattle.cef_path.specs.declared.step.StepText.{StepText}
use Rattle.cef_path.specs.Texts.{head_text, text_of_step, finish_text, path_text}
use Rattle.cal_scheil.specs.declared.job.PathJob.{PathJob}
use Rattle.cal_scheil.specs.declared.step.Stepped.{Stepped}
use Rattle.cal_scheil.specs.Walked.{numbered}
use Rattle.path_run.specs.Outputs.{head_of, opened}
use Rattle.path_run.specs.Workings.{piece}

pub told-none : (o : Option (List ℕ)) → o ≡ append_told o []
told-none None = refl
told-none (Some x) = ap Some (sym (append-nil x))

pub told-twice : (o : Option (List ℕ)) (a b : List ℕ) → append_told (append_told o a) b ≡ append_told o (a ++ b)
told-twice None a b = refl
told-twice (Some x) a b = ap Some (append_assoc x a b)

pub all_but-behind : (old mid new : Option (List ℕ)) (a b rest : List ℕ) → mid ≡ append_told old a → AppendsAllBut rest mid new b →
    AppendsAllBut rest old new (a ++ b)
all_but-behind old mid new a b rest e so = record {
  done = a ++ so.done;
  parts = append_assoc a so.done rest ∙ ap (λ (t : List ℕ). a ++ t) so.parts;
  taken = so.taken ∙ ap (λ (o : Option (List ℕ)). append_told o so.done) e ∙ told-twice old a so.done;
}

-- ---- the text of one more step

flat_map-push : (steps : List StepText) (s : StepText) → flat_map text_of_step (steps ++ s ∷ []) ≡ flat_map text_of_step steps ++ text_of_step s
flat_map-push [] s = append-nil (text_of_step s)
flat_map-push (x ∷ xs) s =
    ap (λ (t : List ℕ). text_of_step x ++ t) (flat_map-push xs s) ∙ sym (append_assoc (text_of_step x) (flat_map text_of_step xs) (text_of_step s))

pub opened-push : (job : PathJob) (steps : List StepText) (s : StepText) →
    opened job (steps ++ s ∷ []) ≡ opened job steps ++ piece (head_of job) (length steps) s
opened-push job [] s = ap (λ (t : List ℕ). head_of job ++ t) (append-nil (text_of_step s))
opened-push job (x ∷ xs) s =
    ap (λ (t : List ℕ). head_of job ++ t) (flat_map-push (x ∷ xs) s)
    ∙ sym (append_assoc (head_of job) (flat_map text_of_step (x ∷ xs)) (text_of_step s))

pub piece_is : (head : List ℕ) (n number : ℕ) (step : Stepped) (left : List ℤ) → number ≡ n + 1 → left ≡ step.left →
    piece head (number - 1) (record { number = number; report = step.report; left = left; line = 0 }) ≡ piece head n (numbered (n + 1) 0 step)
piece_is head n number step left count same = rw (same, count) (ap (λ (k : ℕ). piece head k (numbered (n + 1) 0 step)) (omega arith))

-- the line at which a step stands is no part of its text
pub piece_anywhere : (head : List ℕ) (n number line other : ℕ) (step : Stepped) →
    piece head n (numbered number line step) ≡ piece head n (numbered number other step)
piece_anywhere head zero number line other step = refl
piece_anywhere head (suc n) number line other step = refl

-- ---- the text of a path

pub path_is : (job : PathJob) (s : StepText) (ss : List StepText) (path : PathText) → path.liquid ≡ job.liquid → path.descent ≡ job.descent →
    path.floor ≡ job.floor → path.stop ≡ job.stop → path.steps ≡ s ∷ ss →
    opened job (s ∷ ss) ++ finish_text path.finish path.solids path.remains path.lost ≡ path_text path
unfolding path_text
path_is job s ss path liquid descent floor stop steps =
    let ending : List ℕ = finish_text path.finish path.solids path.remains path.lost in
    append_assoc (head_of job) (flat_map text_of_step (s ∷ ss)) ending ∙ sym (rw (liquid, descent, floor, stop, steps) refl)
