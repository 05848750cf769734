-- The text of a report: its lines, each of its words with one space between them and a line feed at its end.
use Rattle.std.specs.Prelude.{ℕ, List, [], ◌∷◌, ◌++◌, length, map, codes, slice_index_or, ℤ}
use Rattle.std.specs.List.{flat_map, concat}
use Rattle.std.specs.Fmt.{decimal, signed_decimal}
use Rattle.cal_scan.specs.Lines.{Word, Line, line}
use Rattle.cef_report.specs.declared.entry.Entry.{Entry}
use Rattle.cef_report.specs.declared.report.Report.{Report}
use Rattle.cef_tree.specs.declared.tree.Node.{Node}
use Rattle.cef_tree.specs.declared.tree.Node.TheVariants.{Split, Leaf, Affine, Empty}
use Rattle.cef_tree.specs.declared.tree.Tree.{Tree}

-- a word and whole numbers
abbrev pub number_words : Word → List ℤ → List Word
number_words key numbers = key ∷ map signed_decimal numbers

-- the counts of the sublattices, with the word : between them
abbrev pub more_counts : List (List ℕ) → List Word
more_counts lists = flat_map (λ counts. codes ":" ∷ map decimal counts) lists

abbrev pub counts_words : List (List ℕ) → List Word
counts_words [] = []
counts_words (counts ∷ lists) = map decimal counts ++ more_counts lists

-- phase, amount and counts
abbrev pub entry_words : List Word → Entry → List Word
entry_words phases entry = codes "entry" ∷ slice_index_or phases entry.phase [] ∷ signed_decimal entry.amount ∷ counts_words entry.site

abbrev pub node_words : Node → List Word
node_words (Split place cut) = codes "S" ∷ decimal place ∷ decimal cut ∷ []
node_words (Leaf multipliers) = number_words (codes "L") multipliers
node_words (Affine multipliers) = number_words (codes "A") multipliers
node_words Empty = codes "E" ∷ []

-- of each phase a line with its name, and its nodes in preorder
abbrev pub tree_lines : List Word → List Tree → List Line
tree_lines [] trees = []
tree_lines (phase ∷ phases) [] = []
tree_lines (phase ∷ phases) (tree ∷ trees) =
    (line (codes "tree" ∷ phase ∷ []) ∷ map (λ node. line (node_words node)) tree.nodes) ++ tree_lines phases trees

-- ---- the parts of a report, in the order of their lines

abbrev pub number_line : Word → ℤ → Line
number_line key number = line (number_words key (number ∷ []))

unfoldable pub head_lines : Report → List Line
head_lines r =
    line (codes "equilibrium" ∷ codes "1" ∷ [])
    ∷ line (codes "temperature" ∷ decimal r.t ∷ [])
    ∷ line (codes "lattice" ∷ decimal r.lattice ∷ [])
    ∷ line (codes "elements" ∷ r.elements)
    ∷ line (codes "phases" ∷ r.phases)
    ∷ line (number_words (codes "asked") r.asked)
    ∷ []

unfoldable pub entry_lines : List Word → List Entry → List Line
entry_lines phases entries =
    line (codes "entries" ∷ decimal (length entries) ∷ [])
    ∷ map (λ entry. line (entry_words phases entry)) entries

unfoldable pub sum_lines : Report → List Line
sum_lines r =
    line (number_words (codes "total") r.totals)
    ∷ number_line (codes "energy") r.energy
    ∷ number_line (codes "tolerance") r.tolerance
    ∷ number_line (codes "gap") r.gap
    ∷ line (number_words (codes "potentials") r.potentials)
    ∷ []

unfoldable pub end_lines : List Line
end_lines = line (codes "end" ∷ []) ∷ []

abbrev pub lines : Report → List Line
lines r =
    head_lines r
    ++ (entry_lines r.phases r.entries
    ++ (sum_lines r
    ++ (tree_lines r.phases r.trees
    ++ end_lines)))

unfoldable pub text : Report → List ℕ
text r = concat (lines r)
