use Rattle.std.proofs.Common.{◌≡◌, ℕ, ◌<◌, length}
use Rattle.cal_math.specs.Vectors.{at}
use Rattle.lp_stage.specs.Stages.{basis_costs}
use Rattle.lp_stage.proofs.stage.costs_of.Given as goal

abbrev pub invariant-places : goal.invariant-places
invariant-places l = record {
  sized : length l.costs.items ≡ l.j;
  every : (j : ℕ) → j < l.j → at l.costs.items j ≡ basis_costs l.phase l.columns l.places j;
}
