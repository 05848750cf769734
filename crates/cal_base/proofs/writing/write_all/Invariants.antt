use Rattle.std.proofs.Common.{length, ◌≤◌}
use Rattle.cal_base.specs.Outside.{AppendsAllBut}
use Rattle.cal_base.proofs.writing.write_all.Given as goal

abbrev pub invariant-loop-rest : goal.invariant-loop-rest
invariant-loop-rest g l = record {
  written : AppendsAllBut l.rest (g.K.Sink.written l.fn.out) (g.K.Sink.written l.out) l.fn.bytes;
  later : g.K.Sink.faults l.fn.out ≤ g.K.Sink.faults l.out;
}

abbrev pub decreases-loop-rest : goal.decreases-loop-rest
decreases-loop-rest g l = length l.rest
