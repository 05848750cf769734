use Rattle.std.proofs.Common.{◌≡◌, ◌≤◌, ◌^◌, take}
use Rattle.std.specs.Prelude.{All}
use Rattle.lp_basis.specs.Columns.{IsColumn}
use Rattle.lp_core.specs.Fitting.{widest, dearest}
use Rattle.lp_core.proofs.fit.extent_of.Given as goal

abbrev pub invariant-columns : goal.invariant-columns
invariant-columns l = record {
  fine : All (IsColumn l.size) (take l.i l.columns);
  width_is : l.width ≡ widest l.size (take l.i l.columns);
  cost_is : l.cost ≡ dearest (take l.i l.columns);
  most : l.width ≤ 2 ^ 62;
}
