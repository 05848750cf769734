use Rattle.std.proofs.Common.{◌≡◌, ◌+◌, ◌≤◌, suc, Some, arith, refl, ap, length, slice_get}
use Rattle.std.proofs.lemmas.Option.{slice_get_read}
use Rattle.cef_tree.specs.declared.tree.Tree.{Tree}
use Rattle.eq_cert.specs.Rules.{lines_before}
use Rattle.eq_cert.proofs.Lines.{lines_next, lines_within}
use Rattle.cal_check.proofs.stepping.tree_lines.Goals as goal

pub overflow_add-lines : goal.overflow_add-lines
overflow_add-lines c =
    let at = slice_get_read _ _ _ _ refl c.trees-test.true c.index-trees-i.is in
    let nodes = ap (λ (t : Tree). length t.nodes) c.index-trees-i.is in
    omega (arith, c.requires, c.len.ensures, nodes, lines_within c.args.trees.now c.trees.i c.index-trees-i.result at)

pub overflow_add-lines-in-trees : goal.overflow_add-lines-in-trees
overflow_add-lines-in-trees c =
    let at = slice_get_read _ _ _ _ refl c.trees-test.true c.index-trees-i.is in
    let nodes = ap (λ (t : Tree). length t.nodes) c.index-trees-i.is in
    omega (arith, c.requires, c.len.ensures, nodes, c.trees.invariant, lines_within c.args.trees.now c.trees.i c.index-trees-i.result at)

pub trees-preserved : goal.trees-preserved
trees-preserved c =
    let at = slice_get_read _ _ _ _ refl c.trees-test.true c.index-trees-i.is in
    let nodes = ap (λ (t : Tree). length t.nodes) c.index-trees-i.is in
    omega (arith, c.len.ensures, nodes, c.trees.invariant, lines_next c.args.trees.now c.trees.i c.index-trees-i.result at)
