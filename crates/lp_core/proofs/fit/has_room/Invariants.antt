use Rattle.std.proofs.Common.{◌≡◌, ◌≤◌, ◌^◌}
use Rattle.lp_core.proofs.fit.has_room.Given as goal

abbrev pub invariant-power : goal.invariant-power
invariant-power l = record {
  exact : l.power ≡ l.width ^ l._k;
  most : l.power ≤ 2 ^ 62;
}
