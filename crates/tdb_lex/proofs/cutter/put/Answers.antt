use Rattle.tdb_lex.specs.Commands.{cell}
use Rattle.tdb_lex.proofs.Cuts.{mark_yes, mark_no, at_mark, at_plain}
use Rattle.tdb_lex.proofs.cutter.put.Goals as goal

pub returns-then-byte-eq33 : goal.returns-then-byte-eq33
returns-then-byte-eq33 c = λ rest. rw (c.new.ensures, c.in_ok-list.ensures) (at_mark c.args.cutter.list c.args.cutter.text c.args.cutter.first (cell c.args.line c.args.byte) rest (mark_yes c.args.line c.args.byte c.if-byte-eq33.true))

pub returns : goal.returns
returns c = λ rest. rw (c.in_ok-push.ensures.ok, c.first_line-first.ensures) (at_plain c.args.cutter.list c.args.cutter.text c.args.cutter.first (cell c.args.line c.args.byte) rest (mark_no c.args.line c.args.byte c.if-byte-eq33.false))
