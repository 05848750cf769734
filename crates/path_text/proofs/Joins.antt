-- the texts of a path's parts one behind the other
use Rattle.std.proofs.Common.{◌≡◌, ℕ, List, [], ◌∷◌, ◌++◌, refl, sym, ap, ◌∙◌, append_assoc}
use Rattle.std.specs.Prelude.{codes, ℤ}
use Rattle.std.specs.List.{concat, flat_map}
use Rattle.std.specs.Fmt.{decimal}
use Rattle.std.proofs.lemmas.List.{append-nil}
use Rattle.cal_scan.specs.Lines.{Word, Line, line}
use Rattle.cef_report.specs.declared.report.Report.{Report}
use Rattle.cef_report.specs.Texts.{lines, number_words, text}
use Rattle.eq_text.proofs.Joined.{concat-append, five_lines}
use Rattle.cef_path.specs.declared.finish.Finish.{Finish}
use Rattle.cef_path.specs.declared.step.StepText.{StepText}
use Rattle.cef_path.specs.declared.path.PathText.{PathText}
use Rattle.cef_path.specs.Texts.{head_lines, head_text, step_text, finish_word, finish_lines, finish_text, lines_of_step, text_of_step, path_lines, path_text}

pub four_lines : (a b c d old o1 o2 o3 new : List ℕ) → o1 ≡ old ++ a → o2 ≡ o1 ++ b → o3 ≡ o2 ++ c → new ≡ o3 ++ d → new ≡ old ++ concat (a ∷ b ∷ c ∷ d ∷ [])
four_lines a b c d old o1 o2 o3 new e1 e2 e3 e4 = e4 ∙ rw (e3, e2, e1) (simp (append_assoc, append-nil))

pub head_joined : (liquid w : Word) (descent floor stop d f s : ℕ) (o0 o1 o2 o3 o4 new : List ℕ) → o0 ≡ [] → w ≡ liquid → d ≡ descent → f ≡ floor → s ≡ stop →
    o1 ≡ o0 ++ line (codes "path" ∷ codes "1" ∷ []) → o2 ≡ o1 ++ line (codes "liquid" ∷ w ∷ []) → o3 ≡ o2 ++ line (codes "descent" ∷ decimal d ∷ []) → o4 ≡ o3 ++ line (codes "floor" ∷ decimal f ∷ []) →
    new ≡ o4 ++ line (codes "stop" ∷ decimal s ∷ []) → new ≡ head_text liquid descent floor stop
unfolding head_text
head_joined liquid w descent floor stop d f s o0 o1 o2 o3 o4 new e0 ew ed ef es e1 e2 e3 e4 e5 =
    five_lines
    (line (codes "path" ∷ codes "1" ∷ []))
    (line (codes "liquid" ∷ liquid ∷ []))
    (line (codes "descent" ∷ decimal descent ∷ []))
    (line (codes "floor" ∷ decimal floor ∷ []))
    (line (codes "stop" ∷ decimal stop ∷ []))
    [] o1 o2 o3 o4 new
    (e1 ∙ ap (λ (z : List ℕ). z ++ line (codes "path" ∷ codes "1" ∷ [])) e0)
    (e2 ∙ ap (λ (v : List ℕ). o1 ++ line (codes "liquid" ∷ v ∷ [])) ew)
    (e3 ∙ ap (λ (n : ℕ). o2 ++ line (codes "descent" ∷ decimal n ∷ [])) ed)
    (e4 ∙ ap (λ (n : ℕ). o3 ++ line (codes "floor" ∷ decimal n ∷ [])) ef)
    (e5 ∙ ap (λ (n : ℕ). o4 ++ line (codes "stop" ∷ decimal n ∷ [])) es)

pub step_joined : (number n : ℕ) (report : Report) (left : List ℤ) (o0 o1 o2 o3 t : List ℕ) → o0 ≡ [] → n ≡ number → o1 ≡ o0 ++ line (codes "step" ∷ decimal n ∷ []) → t ≡ text report → o2 ≡ o1 ++ t →
    o3 ≡ o2 ++ line (number_words (codes "left") left) → o3 ≡ step_text number report left
unfolding step_text text
step_joined number n report left o0 o1 o2 o3 t e0 en e1 et e2 e3 =
    let first : Line = line (codes "step" ∷ decimal number ∷ []) in
    let last : Line = line (number_words (codes "left") left) in
    e3 ∙ rw (e2, et, e1, e0, en) (append_assoc first (concat (lines report)) last ∙ ap (λ (t : List ℕ). first ++ t) (ap (λ (t : List ℕ). concat (lines report) ++ t) (sym (append-nil last)) ∙ sym (concat-append (lines report) (last ∷ []))))

pub finish_joined : (finish : Finish) (solids remains lost : List ℤ) (w o0 o1 o2 o3 o4 : List ℕ) → o0 ≡ [] → w ≡ finish_word finish → o1 ≡ o0 ++ line (codes "finish" ∷ w ∷ []) → o2 ≡ o1 ++ line (number_words (codes "solids") solids) →
    o3 ≡ o2 ++ line (number_words (codes "remains") remains) → o4 ≡ o3 ++ line (number_words (codes "lost") lost) → o4 ≡ finish_text finish solids remains lost
unfolding finish_text
finish_joined finish solids remains lost w o0 o1 o2 o3 o4 e0 ew e1 e2 e3 e4 =
    four_lines
    (line (codes "finish" ∷ finish_word finish ∷ []))
    (line (number_words (codes "solids") solids))
    (line (number_words (codes "remains") remains))
    (line (number_words (codes "lost") lost))
    [] o1 o2 o3 o4
    (e1 ∙ ap (λ (v : List ℕ). o0 ++ line (codes "finish" ∷ v ∷ [])) ew ∙ ap (λ (z : List ℕ). z ++ line (codes "finish" ∷ finish_word finish ∷ [])) e0)
    e2 e3 e4

-- the steps of a path as lines and as texts
flat_steps : (steps : List StepText) → concat (flat_map lines_of_step steps) ≡ flat_map text_of_step steps
unfolding step_text
flat_steps [] = refl
flat_steps (s ∷ ss) = concat-append (lines_of_step s) (flat_map lines_of_step ss) ∙ ap (λ (t : List ℕ). concat (lines_of_step s) ++ t) (flat_steps ss)

pub path_joined : (path : PathText) → concat (path_lines path) ≡ path_text path
unfolding path_text head_text finish_text
path_joined path =
    let head = head_lines path.liquid path.descent path.floor path.stop in
    let steps = flat_map lines_of_step path.steps in
    let finish = finish_lines path.finish path.solids path.remains path.lost in
    concat-append head (steps ++ finish) ∙ ap (λ (t : List ℕ). concat head ++ t) (concat-append steps finish ∙ ap (λ (t : List ℕ). t ++ concat finish) (flat_steps path.steps))
