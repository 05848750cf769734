use Rattle.std.proofs.Common.{ap, arith}
use Rattle.tdb_lex.specs.Commands.{parts}
use Rattle.tdb_lex.proofs.Cuts.{whole, few_lines}
use Rattle.tdb_lex.proofs.cutter.commands.Goals as goal

pub put_lines-requires : goal.put_lines-requires
put_lines-requires c = omega (arith, few_lines (λ w. w.now) _ c.as_slice.result.now c.args.bytes.now c.as_slice.ensures.value c.in_ok-lines.ensures, c.requires)

pub returns-clause-list : goal.returns-clause-list
unfolding parts
returns-clause-list c = ap (λ p. p.0) (whole (λ w. w.now) _ c.as_slice.result.now c.args.bytes.now c.in_ok-cutter.cutter c.as_slice.ensures.value c.in_ok-lines.ensures c.in_ok-cutter.ensures)

pub returns-clause-unfinished : goal.returns-clause-unfinished
unfolding parts
returns-clause-unfinished c = ap (λ p. p.1) (whole (λ w. w.now) _ c.as_slice.result.now c.args.bytes.now c.in_ok-cutter.cutter c.as_slice.ensures.value c.in_ok-lines.ensures c.in_ok-cutter.ensures)
