-- A text has a byte or more for each of its lines.
use Rattle.std.proofs.Common.{◌≡◌, ℕ, ◌+◌, ◌^◌, ◌<◌, ◌≤◌, List, [], ◌∷◌, ◌++◌, length, map, arith}
use Rattle.std.specs.Prelude.{codes, ℤ}
use Rattle.std.specs.List.{AllByRecursion, concat, flat_map, join_with_byte}
use Rattle.std.specs.Fmt.{decimal}
use Rattle.std.proofs.lemmas.List.{length-append}
use Rattle.cal_limits.specs.declared.TheConstants.{MOST_REPORT_BYTES}
use Rattle.cal_scan.specs.declared.byte.TheConstants.{SPACE, LINE_FEED}
use Rattle.cal_scan.specs.Lines.{Word, Line, line}
use Rattle.cef_tree.specs.declared.tree.Node.{Node}
use Rattle.cef_tree.specs.declared.tree.Tree.{Tree}
use Rattle.cef_report.specs.declared.entry.Entry.{Entry}
use Rattle.cef_report.specs.declared.report.Report.{Report}
use Rattle.cef_report.specs.Texts.{number_words, number_line, entry_words, node_words, tree_lines, head_lines, entry_lines, sum_lines, end_lines, lines, text}
use Rattle.cef_path.specs.declared.step.StepText.{StepText}
use Rattle.cef_path.specs.declared.path.PathText.{PathText}
use Rattle.cef_path.specs.declared.finish.Finish.{Finish}
use Rattle.cef_path.specs.Texts as paths
use Rattle.cef_path.specs.Texts.{lines_of_step, text_of_step, step_text, head_text, finish_text, path_text, finish_lines}
use Rattle.cal_check.specs.Paths.{finish_line}

abbrev AreFed : List Line → Type 0
AreFed ls = AllByRecursion (λ l. 1 ≤ length l) ls

line_fed : (words : List Word) → 1 ≤ length (line words)
unfolding line
line_fed words = omega (arith, length-append (join_with_byte SPACE words) (LINE_FEED ∷ []))

append_fed : (xs ys : List Line) → AreFed xs → AreFed ys → AreFed (xs ++ ys)
append_fed [] ys front behind = behind
append_fed (x ∷ xs) ys front behind = (front.0, append_fed xs ys front.1 behind)

map_fed : {A : Type 0} (f : A → Line) (xs : List A) → ((x : A) → 1 ≤ length (f x)) → AreFed (map f xs)
map_fed f [] each = tt
map_fed f (x ∷ xs) each = (each x, map_fed f xs each)

concat_long : (ls : List Line) → AreFed ls → length ls ≤ length (concat ls)
concat_long [] fed = omega arith
concat_long (l ∷ ls) fed = omega (arith, length-append l (concat ls), concat_long ls fed.1, fed.0)

-- ---- a report

trees_fed : (phases : List Word) (trees : List Tree) → AreFed (tree_lines phases trees)
trees_fed [] trees = tt
trees_fed (phase ∷ phases) [] = tt
trees_fed (phase ∷ phases) (tree ∷ trees) =
    append_fed (line (codes "tree" ∷ phase ∷ []) ∷ map (λ node. line (node_words node)) tree.nodes) (tree_lines phases trees)
    (line_fed (codes "tree" ∷ phase ∷ []), map_fed (λ (node : Node). line (node_words node)) tree.nodes (λ node. line_fed (node_words node)))
    (trees_fed phases trees)

head_fed : (r : Report) → AreFed (head_lines r)
unfolding head_lines
head_fed r = (line_fed _, (line_fed _, (line_fed _, (line_fed _, (line_fed _, (line_fed _, tt))))))

entries_fed : (phases : List Word) (entries : List Entry) → AreFed (entry_lines phases entries)
unfolding entry_lines
entries_fed phases entries = (line_fed _, map_fed (λ (entry : Entry). line (entry_words phases entry)) entries (λ entry. line_fed (entry_words phases entry)))

sums_fed : (r : Report) → AreFed (sum_lines r)
unfolding sum_lines
sums_fed r = (line_fed _, (line_fed _, (line_fed _, (line_fed _, (line_fed _, tt)))))

end_fed : AreFed end_lines
unfolding end_lines
end_fed = (line_fed _, tt)

report_fed : (r : Report) → AreFed (lines r)
report_fed r =
    append_fed (head_lines r) (entry_lines r.phases r.entries ++ (sum_lines r ++ (tree_lines r.phases r.trees ++ end_lines))) (head_fed r)
    (append_fed (entry_lines r.phases r.entries) (sum_lines r ++ (tree_lines r.phases r.trees ++ end_lines)) (entries_fed r.phases r.entries)
    (append_fed (sum_lines r) (tree_lines r.phases r.trees ++ end_lines) (sums_fed r)
    (append_fed (tree_lines r.phases r.trees) end_lines (trees_fed r.phases r.trees) end_fed)))

pub report_short : (r : Report) → length (text r) ≤ MOST_REPORT_BYTES → 1 + length (lines r) < 2 ^ 32
unfolding text
report_short r short = omega (arith, concat_long (lines r) (report_fed r), short)

-- ---- a path

step_long : (s : StepText) → length (lines_of_step s) ≤ length (text_of_step s)
unfolding step_text
step_long s = concat_long (lines_of_step s) (line_fed _, append_fed (lines s.report) (line (number_words (codes "left") s.left) ∷ []) (report_fed s.report) (line_fed _, tt))

steps_long : (steps : List StepText) → length (flat_map lines_of_step steps) ≤ length (flat_map text_of_step steps)
steps_long [] = omega arith
steps_long (s ∷ steps) =
    omega (arith, length-append (lines_of_step s) (flat_map lines_of_step steps), length-append (text_of_step s) (flat_map text_of_step steps), step_long s, steps_long steps)

head_long : (liquid : Word) (descent floor stop : ℕ) → 5 ≤ length (head_text liquid descent floor stop)
unfolding head_text
head_long liquid descent floor stop = concat_long (paths.head_lines liquid descent floor stop) (line_fed _, (line_fed _, (line_fed _, (line_fed _, (line_fed _, tt)))))

finish_long : (finish : Finish) (solids remains lost : List ℤ) → 4 ≤ length (finish_text finish solids remains lost)
unfolding finish_text
finish_long finish solids remains lost = concat_long (finish_lines finish solids remains lost) (line_fed _, (line_fed _, (line_fed _, (line_fed _, tt))))

pub path_short : (p : PathText) → length (path_text p) ≤ MOST_REPORT_BYTES → finish_line p + 3 < 2 ^ 32
unfolding path_text
path_short p short =
    let head = head_text p.liquid p.descent p.floor p.stop in
    let steps = flat_map text_of_step p.steps in
    let finish = finish_text p.finish p.solids p.remains p.lost in
    omega (
      arith,
      short,
      length-append head (steps ++ finish),
      length-append steps finish,
      head_long p.liquid p.descent p.floor p.stop,
      finish_long p.finish p.solids p.remains p.lost,
      steps_long p.steps,
    )
