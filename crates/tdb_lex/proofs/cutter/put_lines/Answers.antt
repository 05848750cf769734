use Rattle.std.proofs.Common.{map}
use Rattle.tdb_lex.specs.Commands.{cells_of_lines}
use Rattle.tdb_lex.proofs.Cuts.{at_start, lines_on, lines_end}
use Rattle.tdb_lex.proofs.cutter.put_lines.Goals as goal

pub lines-init : goal.lines-init
lines-init c = rw (c.new.ensures, c.new-2.ensures) (at_start (cells_of_lines 1 (map (λ w. w.now) c.args.lines.now)))

pub lines-preserved : goal.lines-preserved
lines-preserved c = lines_on (λ w. w.now) c.lines.now _ c.lines.i c.args.lines.now _ _ c.lines-test.true c.in_ok-now.ensures c.lines.invariant

pub returns : goal.returns
returns c = lines_end (λ w. w.now) c.lines.now c.lines.i c.args.lines.now _ c.lines-test.false c.lines.invariant
