use Rattle.std.proofs.Common.{◌≡◌, take}
use Rattle.cal_select.specs.Parameters.{array_at}
use Rattle.cal_select.proofs.arrays.array_at.Given as goal

abbrev pub invariant-lists : goal.invariant-lists
invariant-lists l = l.all ≡ array_at (take l.place l.kept) (take l.place l.array)
