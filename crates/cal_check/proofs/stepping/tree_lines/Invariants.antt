use Rattle.std.proofs.Common.{◌≡◌}
use Rattle.eq_cert.specs.Rules.{lines_before}
use Rattle.cal_check.proofs.stepping.tree_lines.Given as goal

abbrev pub invariant-trees : goal.invariant-trees
invariant-trees l = l.lines ≡ lines_before l.trees l.i
