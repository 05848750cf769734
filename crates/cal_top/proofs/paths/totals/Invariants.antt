use Rattle.std.proofs.Common.{◌≡◌, ◌*◌, map, take}
use Rattle.std.specs.Prelude.{pos}
use Rattle.cal_top.proofs.paths.totals.Given as goal

abbrev pub invariant-amounts : goal.invariant-amounts
invariant-amounts l = l.totals.items ≡ map (λ amount. pos (amount * l.lattice)) (take l.amount-index l.amounts)
