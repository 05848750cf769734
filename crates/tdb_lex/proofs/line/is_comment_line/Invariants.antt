use Rattle.std.proofs.Common.{◌≡◌, drop}
use Rattle.tdb_lex.specs.Commands.{is_comment}
use Rattle.tdb_lex.proofs.line.is_comment_line.Given as goal

abbrev pub invariant-bytes : goal.invariant-bytes
invariant-bytes l = is_comment (drop l.byte-index l.line) ≡ is_comment l.line
