use Rattle.cef_phase.proofs.Fine.{are_fine}
use Rattle.cal_check.proofs.reporting.meets.Goals as goal

pub models_of-models-requires-clause-fine : goal.models_of-models-requires-clause-fine
models_of-models-requires-clause-fine c = rw c.as_slice.ensures (are_fine c.args.system.now c.args.system.now.phases c.requires.system.phases)
