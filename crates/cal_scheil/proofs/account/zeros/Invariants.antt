use Rattle.std.proofs.Common.{◌≡◌, replicate}
use Rattle.std.specs.Prelude.{pos}
use Rattle.cal_scheil.proofs.account.zeros.Given as goal

abbrev pub invariant-places : goal.invariant-places
invariant-places l = l.all ≡ replicate l._place (pos 0)
