-- The lines of trees, and how far their nodes are known to be right.
use Rattle.std.proofs.Common.{◌≡◌, ℕ, zero, suc, ◌+◌, ◌<◌, ◌≤◌, List, [], ◌∷◌, length, slice_get, Some, arith, add-one, inl, inr, ap, sym, ◌∙◌, subst}
use Rattle.std.specs.Prelude.{ℤ}
use Rattle.std.proofs.lemmas.Bool.{cases_lt}
use Rattle.std.proofs.lemmas.Option.{slice_get_within}
use Rattle.cef_core.specs.declared.phase.PhaseAt.{PhaseAt}
use Rattle.cef_tree.specs.declared.tree.Node.{Node}
use Rattle.cef_tree.specs.declared.tree.Tree.{Tree}
use Rattle.eq_cert.specs.First.{IsFirstWrong}
use Rattle.eq_cert.specs.Trees.{IsRightAt}
use Rattle.eq_cert.specs.Rules.{IsRightNode, lines_before}
use Rattle.eq_cert.specs.Judging.{IsWrongNodeAt}
use Rattle.eq_cert.proofs.Order.{lines_mono}

lines_after : (trees : List Tree) (p : ℕ) (tree : Tree) → slice_get trees p ≡ Some tree → lines_before trees (suc p) ≡ lines_before trees p + suc (length tree.nodes)
lines_after [] p tree e = absurd cc
lines_after (t ∷ trees) zero tree e = let same : t ≡ tree = cc in subst (λ (x : Tree). 1 + length t.nodes + 0 ≡ 0 + suc (length x.nodes)) same (omega arith)
lines_after (t ∷ trees) (suc p) tree e = omega (arith, lines_after trees p tree e)

pub lines_next : (trees : List Tree) (p : ℕ) (tree : Tree) → slice_get trees p ≡ Some tree → lines_before trees (p + 1) ≡ lines_before trees p + suc (length tree.nodes)
lines_next trees p tree e = rw add-one (lines_after trees p tree e)

pub lines_within : (trees : List Tree) (p : ℕ) (tree : Tree) → slice_get trees p ≡ Some tree → lines_before trees p + suc (length tree.nodes) ≤ lines_before trees (length trees)
lines_within trees p tree e = lines_mono trees p (length trees) tree e (slice_get_within trees p tree e)

same_tree : (a b : Tree) → Some a ≡ Some b → a ≡ b
same_tree a b e = cc

same_phase : (a b : PhaseAt) → Some a ≡ Some b → a ≡ b
same_phase a b e = cc

module _ (phases : List PhaseAt) (potentials : List ℤ) (trees : List Tree) where
  module _ (p : ℕ) (phase : PhaseAt) (tree : Tree) (nodes : List Node) (is_phase : slice_get phases p ≡ Some phase) (is_tree : slice_get trees p ≡ Some tree) (nodes_are : nodes ≡ tree.nodes) where
    pub node_from_right : (place : ℕ) → IsRightAt phase potentials nodes place → IsRightNode phases potentials trees p place
    node_from_right place right other_phase other_tree e f =
        let same : phase ≡ other_phase = same_phase phase other_phase (sym is_phase ∙ e) in
        let same_t : tree ≡ other_tree = same_tree tree other_tree (sym is_tree ∙ f) in
        subst (λ (q : PhaseAt). IsRightAt q potentials other_tree.nodes place) same
        (subst (λ (t : Tree). IsRightAt phase potentials t.nodes place) same_t
        (subst (λ (ns : List Node). IsRightAt phase potentials ns place) nodes_are right))

    pub right_from_node : (place : ℕ) → IsRightNode phases potentials trees p place → IsRightAt phase potentials nodes place
    right_from_node place right = subst (λ (ns : List Node). IsRightAt phase potentials ns place) (sym nodes_are) (right phase tree is_phase is_tree)

    pub right_next : ((q k : ℕ) → q < p → IsRightNode phases potentials trees q k) → ((place : ℕ) → IsRightAt phase potentials nodes place) → (q k : ℕ) → q < p + 1 → IsRightNode phases potentials trees q k
    right_next before here q k lt =
        elim (cases_lt q p) [
          | inl less ↦ before q k less
          | inr le ↦ let same : p ≡ q = omega arith in subst (λ (i : ℕ). IsRightNode phases potentials trees i k) same (node_from_right k (here k))
        ]

    pub wrong_at : (line place : ℕ) → line ≡ lines_before trees p → place < length nodes → ((q k : ℕ) → q < p → IsRightNode phases potentials trees q k) → IsFirstWrong (IsRightAt phase potentials nodes) place →
        IsWrongNodeAt phases potentials trees (line + place)
    wrong_at line place e lt earlier verdict = record {
      p = p;
      place = place;
      tree = tree;
      is_tree = is_tree;
      within = omega (arith, ap length nodes_are);
      line_is = omega arith;
      wrong = λ right. verdict.wrong (right_from_node place right);
      earlier = earlier;
      before = λ k less. node_from_right k (verdict.before k less);
    }

  -- past the last tree nothing is asked
  pub right_all : (i : ℕ) → length trees ≤ i → ((q k : ℕ) → q < i → IsRightNode phases potentials trees q k) → (q k : ℕ) → IsRightNode phases potentials trees q k
  right_all i le right q k phase tree e f = right q k (omega (arith, slice_get_within trees q tree f)) phase tree e f
