use Rattle.std.proofs.Common.{◌≡◌, take, map}
use Rattle.eq_solve.specs.Figures.{entry_at}
use Rattle.eq_solve.proofs.amount.entries_of.Given as goal

abbrev pub invariant-amounts : goal.invariant-amounts
invariant-amounts l = l.entries ≡ map (entry_at l.known) (take l.amount-index l.amounts)
