use Rattle.std.proofs.Common.{sym, ◌∙◌}
use Rattle.tdb_lex.proofs.Cuts.{comment_line}
use Rattle.tdb_lex.proofs.cutter.put_line.Goals as goal

pub returns-then-is_comment_line : goal.returns-then-is_comment_line
returns-then-is_comment_line c = λ rest. c.in_ok-next.ensures rest ∙ comment_line c.args.cutter c.args.number c.args.line.now (sym c.if-is_comment_line.ensures) rest
