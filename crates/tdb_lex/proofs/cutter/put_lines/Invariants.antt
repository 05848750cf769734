use Rattle.std.proofs.Common.{◌≡◌, drop, map, ◌+◌}
use Rattle.tdb_lex.specs.Commands.{cells_of_lines}
use Rattle.tdb_lex.specs.Outcome.{outcome, cut_of}
use Rattle.tdb_lex.proofs.cutter.put_lines.Given as goal

abbrev pub invariant-lines : goal.invariant-lines
invariant-lines l = outcome l.now (cells_of_lines (l.i + 1) (map (λ w. w.now) (drop l.i l.lines))) ≡ cut_of (cells_of_lines 1 (map (λ w. w.now) l.lines))
