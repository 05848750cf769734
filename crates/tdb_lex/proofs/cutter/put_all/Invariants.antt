use Rattle.std.proofs.Common.{◌≡◌, drop, ◌++◌, List}
use Rattle.tdb_lex.specs.Commands.{Cell, cells}
use Rattle.tdb_lex.specs.Outcome.{outcome}
use Rattle.tdb_lex.proofs.cutter.put_all.Given as goal

abbrev pub invariant-bytes : goal.invariant-bytes
invariant-bytes l = (rest : List Cell) → outcome l.now (cells l.line (drop l.byte-index l.bytes) ++ rest) ≡ outcome l.fn.cutter (cells l.line l.bytes ++ rest)
