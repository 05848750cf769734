use Rattle.std.proofs.Common.{◌≡◌}
use Rattle.cef_core.specs.Parameters.{power}
use Rattle.cef_term.proofs.power.power_of.Given as goal

abbrev pub invariant-steps : goal.invariant-steps
invariant-steps l = l.total ≡ power l.base l.step
