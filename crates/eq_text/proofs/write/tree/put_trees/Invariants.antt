use Rattle.std.proofs.Common.{◌≡◌, ◌++◌, take}
use Rattle.std.specs.List.{concat}
use Rattle.cef_report.specs.Texts.{tree_lines}
use Rattle.eq_text.proofs.write.tree.put_trees.Given as goal

abbrev pub invariant-trees : goal.invariant-trees
invariant-trees l = l.out.items ≡ l.fn.out.items ++ concat (tree_lines (take l.place l.phases) (take l.place l.trees))
