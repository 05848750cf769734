use Rattle.std.proofs.Common.{◌≡◌, drop}
use Rattle.cal_lines.specs.Choosing.{each}
use Rattle.cal_lines.specs.Places.{place}
use Rattle.cal_lines.proofs.Many.{with_before}
use Rattle.eq_text.specs.Parsing.{tree_at}
use Rattle.eq_text.proofs.read.tree.trees.Given as goal

abbrev pub invariant-phases : goal.invariant-phases
invariant-phases l = with_before l.all (each tree_at (drop l.phase-index l.phases) (place l.here)) ≡ each tree_at l.phases (place l.fn.at)
