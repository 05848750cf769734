use Rattle.std.proofs.Common.{◌≡◌, ◌++◌, take}
use Rattle.std.specs.List.{flat_map}
use Rattle.cal_scan.specs.Lines.{line}
use Rattle.cef_report.specs.Texts.{node_words}
use Rattle.eq_text.proofs.write.tree.put_nodes.Given as goal

abbrev pub invariant-nodes : goal.invariant-nodes
invariant-nodes l = l.out.items ≡ l.fn.out.items ++ flat_map (λ node. line (node_words node)) (take l.node-index l.nodes)
