use Rattle.std.proofs.Common.{sym}
use Rattle.tdb_lex.proofs.Cuts.{comment_decided, comment_on, comment_end}
use Rattle.tdb_lex.proofs.line.is_comment_line.Goals as goal

pub returns-then-not-is_space_byte : goal.returns-then-not-is_space_byte
returns-then-not-is_space_byte c = comment_decided c.args.line.now c.bytes.byte-index _ c.bytes-test.true (sym c.if-not-is_space_byte.ensures) c.bytes.invariant

pub bytes-preserved : goal.bytes-preserved
bytes-preserved c = comment_on c.args.line.now c.bytes.byte-index _ c.bytes-test.true (sym c.if-not-is_space_byte.ensures) c.bytes.invariant

pub returns : goal.returns
returns c = comment_end c.args.line.now c.bytes.byte-index _ c.bytes-test.false c.bytes.invariant
