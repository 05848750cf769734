use Rattle.cef_phase.proofs.Alone.{fine_of}
use Rattle.cef_phase.proofs.planes.raise_planes.Goals as goal

pub raise_all-requires-clause-fine : goal.raise_all-requires-clause-fine
raise_all-requires-clause-fine c = fine_of c.args.phase.now c.requires.has.fine
