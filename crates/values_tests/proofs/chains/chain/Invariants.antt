use Rattle.temp_fun.specs.Functions.{AreFunctions}
use Rattle.values_tests.proofs.chains.chain.Given as goal

abbrev pub invariant-functions : goal.invariant-functions
invariant-functions l = record { fine : AreFunctions l.all.entries }
