-- Reading a report line by line.
use Rattle.std.specs.Prelude.{ℕ, suc, List, length, Some, None, Result, ℤ, codes}
use Rattle.cal_limits.specs.declared.TheConstants.{MOST_ELEMENTS, MOST_NUMBER, MOST_TOLERANCE, MOST_PRINTED_GAP}
use Rattle.cal_scan.specs.Lines.{Word}
use Rattle.cef_report.specs.declared.entry.Entry.{Entry}
use Rattle.cef_report.specs.declared.report.Report.{Report}
use Rattle.cef_tree.specs.declared.tree.Node.{Node}
use Rattle.cef_tree.specs.declared.tree.Node.TheVariants.{Split, Leaf, Affine, Empty}
use Rattle.cef_tree.specs.declared.tree.Tree.{Tree}
use Rattle.cal_lines.specs.Reading.{Lines, Read, ◌>>=◌, both, of_line, many, pair, only}
use Rattle.cal_lines.specs.Choosing.{each}
use Rattle.cal_lines.specs.Kinds.{names_after}
use Rattle.eq_text.specs.Kinds.{two_words_of, end_of, temperature_of, lattice_of, count_of, integer_after, size_after, integers_after, asked_of, entry_of, node_of}

-- ---- entries

-- each entry is one line
abbrev pub entries_next : Entry → ℕ → ℕ
entries_next entry open_lines = open_lines

abbrev pub entry_lines_at : List Word → ℕ → Read (List Entry)
entry_lines_at phases n at = many entries_next (entry_of phases) n at.0 at.1

unfoldable pub entries_at : List Word → Read (List Entry)
entries_at phases = both (λ n entries. entries) (of_line count_of) (entry_lines_at phases)

-- ---- trees

-- how many subtrees are open behind a node, with so many open beside it
abbrev pub node_next : Node → ℕ → ℕ
node_next (Split place cut) beside = suc (suc beside)
node_next (Leaf multipliers) beside = beside
node_next (Affine multipliers) beside = beside
node_next Empty beside = beside

unfoldable pub nodes_at : Read (List Node)
nodes_at at = many node_next node_of 1 at.0 at.1

abbrev pub tree_made : Unit {0} → List Node → Tree
tree_made u nodes = record { nodes = nodes }

unfoldable pub tree_at : Word → Read Tree
tree_at phase = both tree_made (of_line (two_words_of (codes "tree") phase)) (λ u. nodes_at)

-- ---- the parts, from the last to the first

abbrev pub Closing : Type 0
Closing = List Tree × Unit {0}

abbrev pub Bounds : Type 0
Bounds = ℤ × (ℤ × List ℤ)

abbrev pub Sums : Type 0
Sums = List ℤ × (ℤ × Bounds)

abbrev pub Body : Type 0
Body = List ℤ × (List Entry × (Sums × Closing))

abbrev pub Named : Type 0
Named = List Word × (List Word × Body)

abbrev pub Whole : Type 0
Whole = Unit {0} × (ℕ × (ℕ × Named))

-- the trees of all phases, and the end
unfoldable pub closing_at : List Word → Read Closing
closing_at phases = both pair (each tree_at phases) (λ trees. of_line end_of)

-- tolerance, gap and potentials
unfoldable pub bounds_at : ℕ → Read Bounds
bounds_at n = both pair (of_line (size_after (codes "tolerance") MOST_TOLERANCE)) (λ tolerance. both pair (of_line (size_after (codes "gap") MOST_PRINTED_GAP)) (λ gap. of_line (integers_after (codes "potentials") n MOST_NUMBER)))

-- total and energy, and these
unfoldable pub sums_at : ℕ → Read Sums
sums_at n = both pair (of_line (integers_after (codes "total") n MOST_NUMBER)) (λ totals. both pair (of_line (integer_after (codes "energy") MOST_NUMBER)) (λ energy. bounds_at n))

-- what is about so many elements and these phases
unfoldable pub body_at : ℕ → List Word → Read Body
body_at n phases = both pair (of_line (asked_of n)) (λ asked. both pair (entries_at phases) (λ entries. both pair (sums_at n) (λ sums. closing_at phases)))

unfoldable pub phases_at : ℕ → Read (List Word × Body)
phases_at n = both pair (of_line (names_after (codes "phases") None)) (λ phases. body_at n phases)

unfoldable pub named_at : Read Named
named_at = both pair (of_line (names_after (codes "elements") (Some MOST_ELEMENTS))) (λ elements. phases_at (length elements))

unfoldable pub report_at : Read Whole
report_at = both pair (of_line (two_words_of (codes "equilibrium") (codes "1"))) (λ u. both pair (of_line temperature_of) (λ t. both pair (of_line lattice_of) (λ lattice. named_at)))

-- all lines are the report's
unfoldable pub all_of : Lines → Result Whole ℕ
all_of at = report_at at >>= only

-- the fields of a report, in the order of its lines
abbrev pub body_fields : Report → Body
body_fields r = (r.asked, (r.entries, ((r.totals, (r.energy, (r.tolerance, (r.gap, r.potentials)))), (r.trees, tt))))

abbrev pub fields : Report → Whole
fields r = (tt, (r.t, (r.lattice, (r.elements, (r.phases, body_fields r)))))
