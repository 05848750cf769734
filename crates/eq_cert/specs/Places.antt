-- The lines of the rules are those of the text of a report.
use Rattle.std.specs.Prelude.{◌≡◌, ℕ, ◌+◌, ◌∷◌, Some, length, slice_get, codes}
use Rattle.cal_scan.specs.Lines.{line}
use Rattle.cef_tree.specs.declared.tree.Node.{Node}
use Rattle.cef_tree.specs.declared.tree.Tree.{Tree}
use Rattle.cef_report.specs.declared.entry.Entry.{Entry}
use Rattle.cef_report.specs.declared.report.Report.{Report}
use Rattle.cef_report.specs.Texts.{entry_words, node_words, number_words, number_line, lines}
use Rattle.eq_cert.specs.Rules.{node_line}

-- what stands at each line that a rule names
pub record HasLines (report : Report) : Type 0 where
  pub elements : slice_get (lines report) 3 ≡ Some (line (codes "elements" ∷ report.elements))
  pub phases : slice_get (lines report) 4 ≡ Some (line (codes "phases" ∷ report.phases))
  pub entries : (k : ℕ) (entry : Entry) → slice_get report.entries k ≡ Some entry →
      slice_get (lines report) (7 + k) ≡ Some (line (entry_words report.phases entry))
  pub totals : slice_get (lines report) (7 + length report.entries)
      ≡ Some (line (number_words (codes "total") report.totals))
  pub energy : slice_get (lines report) (8 + length report.entries)
      ≡ Some (number_line (codes "energy") report.energy)
  pub tolerance : slice_get (lines report) (9 + length report.entries)
      ≡ Some (number_line (codes "tolerance") report.tolerance)
  pub gap : slice_get (lines report) (10 + length report.entries)
      ≡ Some (number_line (codes "gap") report.gap)
  pub potentials : slice_get (lines report) (11 + length report.entries)
      ≡ Some (line (number_words (codes "potentials") report.potentials))
  pub nodes : (p place : ℕ) (tree : Tree) (node : Node) →
      slice_get report.trees p ≡ Some tree → slice_get tree.nodes place ≡ Some node →
      slice_get (lines report) (node_line report p + place) ≡ Some (line (node_words node))
