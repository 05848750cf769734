use Rattle.std.proofs.Common.{arith}
use Rattle.mag_tests.proofs.Alloys.{alloy_fine, alloy_index, curies, moments}
use Rattle.mag_tests.proofs.terms.magnetism.Goals as goal

pub new-requires-clause-curies : goal.new-requires-clause-curies
new-requires-clause-curies c = curies c.args.phase.now c.in_ok-curie.curie.items c.requires.alloy c.in_ok-curie.ensures

pub new-requires-clause-moments : goal.new-requires-clause-moments
new-requires-clause-moments c = moments c.args.phase.now c.in_ok-moment.moment.items c.requires.alloy c.in_ok-moment.ensures

pub two_terms-requires-clause-fine : goal.two_terms-requires-clause-fine
two_terms-requires-clause-fine c = alloy_fine c.args.phase.now c.requires.alloy

pub two_terms-requires-2-clause-fine : goal.two_terms-requires-2-clause-fine
two_terms-requires-2-clause-fine c = alloy_fine c.args.phase.now c.requires.alloy

pub new-requires-clause-fine : goal.new-requires-clause-fine
new-requires-clause-fine c = alloy_fine c.args.phase.now c.requires.alloy

pub two_terms-requires-clause-first : goal.two_terms-requires-clause-first
two_terms-requires-clause-first c = alloy_index c.args.phase.now 0 c.requires.alloy (omega arith)

pub two_terms-requires-clause-second : goal.two_terms-requires-clause-second
two_terms-requires-clause-second c = alloy_index c.args.phase.now 1 c.requires.alloy (omega arith)

pub two_terms-requires-2-clause-first : goal.two_terms-requires-2-clause-first
two_terms-requires-2-clause-first c = alloy_index c.args.phase.now 2 c.requires.alloy (omega arith)

pub two_terms-requires-2-clause-second : goal.two_terms-requires-2-clause-second
two_terms-requires-2-clause-second c = alloy_index c.args.phase.now 3 c.requires.alloy (omega arith)
