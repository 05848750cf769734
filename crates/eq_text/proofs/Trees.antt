-- The lines of the trees: one tree for each phase, in the order of the phases.
use Rattle.std.proofs.Common.{◌≡◌, ℕ, suc, ◌+◌, List, [], ◌∷◌, ◌++◌, length, map, Ok, true, refl, ap, subst, arith}
use Rattle.std.specs.Prelude.{codes}
use Rattle.std.specs.List.{AllByRecursion}
use Rattle.cal_scan.specs.Words.{is_name}
use Rattle.cef_tree.specs.declared.tree.Node.TheVariants.{Empty}
use Rattle.cef_tree.specs.declared.tree.Tree.{Tree}
use Rattle.cef_report.specs.Spelled.{IsSpelledTree}
use Rattle.cal_scan.specs.Lines.{Word, Line, line}
use Rattle.cef_report.specs.Texts.{node_words, tree_lines}
use Rattle.cal_lines.specs.Reading.{Lines, of_line, Runs}
use Rattle.cal_lines.specs.Choosing.{each}
use Rattle.cal_lines.proofs.Algebra.{Exact, Took, exact_both, ok_is}
use Rattle.cal_lines.proofs.Lines.{IsWord, spelled, exact_line, exact_many}
use Rattle.cal_lines.proofs.Sorts.{plain_from, name_word}
use Rattle.eq_text.specs.Kinds.{two_words_of, node_of}
use Rattle.eq_text.specs.Parsing.{node_next, nodes_at, tree_made, tree_at}
use Rattle.eq_text.proofs.Sayings.{AnyUnit, two_fixed, two_words_kind}
use Rattle.eq_text.proofs.Nodes.{IsNode, node_kind, runs_from_spans, spans_from_runs}

exact_nodes : Exact (spelled node_words) (Runs node_next IsNode 1) nodes_at
unfolding nodes_at
exact_nodes = exact_many node_next node_words IsNode node_of node_kind Empty tt (λ beside. refl) 1

abbrev tree_text : Word → Tree → List Line
tree_text phase tree = line (codes "tree" ∷ phase ∷ []) ∷ map (λ node. line (node_words node)) tree.nodes

exact_tree : (phase : Word) → IsWord phase → Exact (tree_text phase) IsSpelledTree (tree_at phase)
unfolding tree_at
exact_tree phase is_word =
    exact_both tree_made (λ u. line (two_fixed (codes "tree") phase u) ∷ []) AnyUnit (of_line (two_words_of (codes "tree") phase)) (λ u. spelled node_words) (λ u. Runs node_next IsNode 1) (λ u. nodes_at) (tree_text phase) IsSpelledTree
    (record {
      parts = λ tree fits. (tt, tree.nodes, tt, runs_from_spans tree.nodes [] fits 0 tt, refl);
      fits = λ u nodes fu runs. spans_from_runs nodes runs;
      spells = λ u nodes fu runs. refl;
    })
    (exact_line (two_fixed (codes "tree") phase) AnyUnit (two_words_of (codes "tree") phase) (two_words_kind (codes "tree") phase (plain_from (codes "tree") refl) is_word))
    (λ u fits. exact_nodes)

abbrev pub AreTrees : List Word → List Tree → Type 0
AreTrees phases trees = (length trees ≡ length phases) × AllByRecursion IsSpelledTree trees

pub exact_trees : (phases : List Word) → AllByRecursion (λ phase. is_name phase ≡ true) phases → Exact (tree_lines phases) (AreTrees phases) (each tree_at phases)
unfolding each
exact_trees [] names = record {
  took = λ n ls trees m rest e. let made : List Tree × Lines = ([], (n, ls)) in subst (λ (z : List Tree × Lines). Took (tree_lines []) (AreTrees []) n ls z.0 z.1.0 z.1.1) (ok_is made (trees, (m, rest)) e) (record { parts = refl; number = omega arith; fits = (refl, tt) });
  again = λ trees n rest fits. again trees n rest fits;
  stops = λ n ls k e. absurd cc;
  clean = λ trees fits. tt;
}
  where
    again : (trees : List Tree) (n : ℕ) (rest : List Line) → AreTrees [] trees → each tree_at [] (n, tree_lines [] trees ++ rest) ≡ Ok (trees, (n + length (tree_lines [] trees), rest))
    again [] n rest fits = let e : n ≡ n + 0 = omega arith in ap (λ (k : ℕ). Ok ([], (k, rest))) e
    again (tree ∷ trees) n rest fits = absurd (omega (arith, fits.0))
exact_trees (phase ∷ phases) names =
    exact_both (λ tree trees. tree ∷ trees) (tree_text phase) IsSpelledTree (tree_at phase) (λ tree. tree_lines phases) (λ tree. AreTrees phases) (λ tree. each tree_at phases) (tree_lines (phase ∷ phases)) (AreTrees (phase ∷ phases))
    (record {
      parts = λ trees fits. cut trees fits;
      fits = λ tree trees fits all. (ap suc all.0, (fits, all.1));
      spells = λ tree trees fits all. refl;
    })
    (exact_tree phase (name_word phase names.0)) (λ tree fits. exact_trees phases names.1)
  where
    cut : (trees : List Tree) → AreTrees (phase ∷ phases) trees → (t : Tree) × (ts : List Tree) × IsSpelledTree t × AreTrees phases ts × (trees ≡ t ∷ ts)
    cut [] fits = absurd (omega (arith, fits.0))
    cut (tree ∷ trees) fits = (tree, trees, fits.1.0, (omega (arith, fits.0), fits.1.1), refl)
