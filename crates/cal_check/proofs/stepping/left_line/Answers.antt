use Rattle.std.proofs.Common.{◌≡◌, ◌+◌, ◌≤◌, suc, Some, arith, refl, ap, length, slice_get}
use Rattle.eq_cert.specs.Rules.{lines_before, node_line}
use Rattle.eq_cert.proofs.Judging.{lines_of}
use Rattle.cal_check.proofs.stepping.left_line.Goals as goal

pub tree_lines-requires : goal.tree_lines-requires
tree_lines-requires c =
    let lines = lines_of c.args.step.now.report c.requires.spelled in
    rw c.as_slice.ensures (omega (arith, c.requires.room, lines))

pub overflow_add-lines-2 : goal.overflow_add-lines-2
overflow_add-lines-2 c =
    let lines = lines_of c.args.step.now.report c.requires.spelled in
    let trees = rw c.as_slice.ensures at c.tree_lines.ensures in
    omega (arith, c.requires.room, lines, trees, c.len.ensures)

pub overflow_cast-result : goal.overflow_cast-result
overflow_cast-result c =
    let lines = lines_of c.args.step.now.report c.requires.spelled in
    let trees = rw c.as_slice.ensures at c.tree_lines.ensures in
    omega (arith, c.requires.room, lines, trees, c.len.ensures)

pub overflow_add-result-2 : goal.overflow_add-result-2
overflow_add-result-2 c =
    let lines = lines_of c.args.step.now.report c.requires.spelled in
    let trees = rw c.as_slice.ensures at c.tree_lines.ensures in
    omega (arith, c.requires.room, lines, trees, c.len.ensures)

pub returns : goal.returns
returns c =
    let lines = lines_of c.args.step.now.report c.requires.spelled in
    let trees = rw c.as_slice.ensures at c.tree_lines.ensures in
    omega (arith, lines, trees, c.len.ensures)
