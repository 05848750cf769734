use Rattle.std.proofs.Common.{◌≡◌, refl}
use Rattle.eq_solve.proofs.Swept.{all_fine, planes, swept_sound}
use Rattle.eq_solve.proofs.modelled.ModelledPhases.sweep.Goals as goal

pub sweep-requires-clause-fine : goal.sweep-requires-clause-fine
sweep-requires-clause-fine g c = rw c.requires.ready.models (all_fine c.args.self.now.system.now c.args.self.now.system.now.phases c.requires.ready.system_is.phases)

pub sweep-requires-clause-planes : goal.sweep-requires-clause-planes
sweep-requires-clause-planes g c = rw c.requires.ready.models (planes c.args.self.now.system.now c.args.potentials.now c.requires.ready.system_is c.requires.small)

pub returns-clause-exact : goal.returns-clause-exact
returns-clause-exact g c = rw c.requires.ready.models at c.in_ok-swept.ensures.exact

pub returns-clause-sound : goal.returns-clause-sound
returns-clause-sound g c =
    swept_sound c.args.self.now.system.now c.args.potentials.now c.args.budget c.in_ok-swept.swept c.requires.ready.system_is
    (rw c.requires.ready.models at c.in_ok-swept.ensures.exact) (rw c.requires.ready.models at c.in_ok-swept.ensures.above)
    (rw c.requires.ready.models at c.in_ok-swept.ensures.below) (rw c.requires.ready.models at c.in_ok-swept.ensures.out)
