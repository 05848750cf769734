use Rattle.lp_core.specs.Weights.{AreWeights}
use Rattle.lp_core.proofs.weight.weights_of.Given as goal

abbrev pub invariant-places : goal.invariant-places
invariant-places l = AreWeights l.places l.fractions l.parts l.j l.weights.items
