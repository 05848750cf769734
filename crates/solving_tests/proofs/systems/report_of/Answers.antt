use Rattle.std.proofs.Common.{rules, SFits}
use Rattle.std.specs.Int.{w128}
use Rattle.std.proofs.lemmas.Int.{to_z-of_z}
use Rattle.solving_tests.proofs.Fine.{phases_fine, asked_is}
use Rattle.solving_tests.proofs.systems.report_of.Goals as goal

pub models_of-requires-clause-fine : goal.models_of-requires-clause-fine
models_of-requires-clause-fine c = rw c.as_slice.ensures (phases_fine c.args.system.now c.requires.system)

pub equilibrium-requires-clause-asked : goal.equilibrium-requires-clause-asked
equilibrium-requires-clause-asked c =
    let fits_a : SFits w128 c.args.a = search rules in
    let fits_b : SFits w128 c.args.b = search rules in
    simp to_z-of_z (asked_is c.args.system.now c.args.a c.args.b c.requires.elements c.requires.a_low c.requires.a_high c.requires.b_low c.requires.b_high)
