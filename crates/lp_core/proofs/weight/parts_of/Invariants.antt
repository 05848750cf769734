use Rattle.std.proofs.Common.{◌≤◌, ◌^◌}
use Rattle.lp_core.specs.Weights.{IsCommon}
use Rattle.lp_core.proofs.weight.parts_of.Given as goal

abbrev pub invariant-fractions : goal.invariant-fractions
invariant-fractions l = record {
  common : IsCommon l.fractions l.j l.parts;
  small : l.parts ≤ 2 ^ 62;
}
