use Rattle.eq_solve.proofs.Knowing.{fits}
use Rattle.eq_solve.proofs.round.round.Goals as goal

pub solve-answer-requires : goal.solve-answer-requires
solve-answer-requires g c = fits c.args.system.now c.args.known.now c.args.columns.now c.args.asked.now c.requires.round.can.sized c.requires.round.are_known c.requires.round.can.size c.requires.round.can.aim
