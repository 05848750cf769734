use Rattle.formalism_tests.proofs.Boxes.{two_fit}
use Rattle.formalism_tests.proofs.bounds.bounded_between.Goals as goal

pub choose_and_bound-requires-clause-fits : goal.choose_and_bound-requires-clause-fits
choose_and_bound-requires-clause-fits c =
    two_fit c.args.phase.now c.args.low.now c.args.high.now c.in_ok-range.range c.requires.lattice c.requires.sites c.requires.low c.requires.high c.if-not-are_ranges.ensures c.in_ok-range.ensures
