-- The text of a path: its lines, each of its words with one space between them and a line feed at its end.
use Rattle.std.specs.Prelude.{ℕ, List, [], ◌∷◌, ◌++◌, codes, ℤ}
use Rattle.std.specs.List.{concat, flat_map}
use Rattle.std.specs.Fmt.{decimal}
use Rattle.cal_scan.specs.Lines.{Word, Line, line}
use Rattle.cef_report.specs.declared.report.Report.{Report}
use Rattle.cef_report.specs.Texts.{number_words, lines}
use Rattle.cef_path.specs.declared.finish.Finish.{Finish}
use Rattle.cef_path.specs.declared.finish.Finish.TheVariants.{NoLiquid, Fraction, Temperature}
use Rattle.cef_path.specs.declared.step.StepText.{StepText}
use Rattle.cef_path.specs.declared.path.PathText.{PathText}

abbrev pub head_lines : Word → ℕ → ℕ → ℕ → List Line
head_lines liquid descent floor stop =
    line (codes "path" ∷ codes "1" ∷ [])
    ∷ line (codes "liquid" ∷ liquid ∷ [])
    ∷ line (codes "descent" ∷ decimal descent ∷ [])
    ∷ line (codes "floor" ∷ decimal floor ∷ [])
    ∷ line (codes "stop" ∷ decimal stop ∷ [])
    ∷ []

-- the number, the report, and what is left of each element
abbrev pub step_lines : ℕ → Report → List ℤ → List Line
step_lines number report left =
    line (codes "step" ∷ decimal number ∷ []) ∷ lines report ++ line (number_words (codes "left") left) ∷ []

abbrev pub finish_word : Finish → Word
finish_word NoLiquid = codes "no-liquid"
finish_word Fraction = codes "fraction"
finish_word Temperature = codes "temperature"

abbrev pub finish_lines : Finish → List ℤ → List ℤ → List ℤ → List Line
finish_lines finish solids remains lost =
    line (codes "finish" ∷ finish_word finish ∷ [])
    ∷ line (number_words (codes "solids") solids)
    ∷ line (number_words (codes "remains") remains)
    ∷ line (number_words (codes "lost") lost)
    ∷ []

abbrev pub lines_of_step : StepText → List Line
lines_of_step step = step_lines step.number step.report step.left

abbrev pub path_lines : PathText → List Line
path_lines path =
    head_lines path.liquid path.descent path.floor path.stop
    ++ (flat_map lines_of_step path.steps
    ++ finish_lines path.finish path.solids path.remains path.lost)

-- ---- the texts of a path's parts, and of the path

unfoldable pub head_text : Word → ℕ → ℕ → ℕ → List ℕ
head_text liquid descent floor stop = concat (head_lines liquid descent floor stop)

unfoldable pub step_text : ℕ → Report → List ℤ → List ℕ
step_text number report left = concat (step_lines number report left)

unfoldable pub finish_text : Finish → List ℤ → List ℤ → List ℤ → List ℕ
finish_text finish solids remains lost = concat (finish_lines finish solids remains lost)

abbrev pub text_of_step : StepText → List ℕ
text_of_step step = step_text step.number step.report step.left

-- the head, the steps and the finish
unfoldable pub path_text : PathText → List ℕ
path_text path =
    head_text path.liquid path.descent path.floor path.stop
    ++ (flat_map text_of_step path.steps
    ++ finish_text path.finish path.solids path.remains path.lost)
