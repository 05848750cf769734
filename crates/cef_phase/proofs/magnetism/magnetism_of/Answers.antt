use Rattle.cal_limits.specs.declared.TheConstants.{MOST_CURIE, MOST_MOMENT}
use Rattle.std.proofs.Common.{refl}
use Rattle.cef_core.specs.Energies.{is_curie, is_moment}
use Rattle.cef_phase.proofs.Adding.{magnetism_made, magnetism_none, summands}
use Rattle.cef_phase.proofs.magnetism.magnetism_of.Goals as goal

pub returns-in-None : goal.returns-in-None
returns-in-None c = magnetism_none c.args.phase.now c.args.phase.now.magnetic c.in-None.is

pub new-requires-clause-curies : goal.new-requires-clause-curies
new-requires-clause-curies c = summands is_curie c.args.phase.now MOST_CURIE c.in_ok-curie-in-Some.curie.items c.in_ok-curie-in-Some.ensures c.requires.fine.keeps.curie

pub new-requires-clause-moments : goal.new-requires-clause-moments
new-requires-clause-moments c = summands is_moment c.args.phase.now MOST_MOMENT c.in_ok-moments-in-Some.moments.items c.in_ok-moments-in-Some.ensures c.requires.fine.keeps.moments
