use Rattle.std.proofs.Common.{All}
use Rattle.cef_phase.proofs.Fine.{are_fine}
use Rattle.cal_scheil.proofs.making.solved.Goals as goal

pub models_of-requires-clause-fine : goal.models_of-requires-clause-fine
models_of-requires-clause-fine c = rw c.as_slice.ensures (are_fine c.args.system.now c.args.system.now.phases c.requires.system.phases)
