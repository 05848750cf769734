use Rattle.std.proofs.Common.{◌≡◌, take}
use Rattle.eq_solve.specs.Greatest.{alone}
use Rattle.eq_solve.proofs.alone.alone_at.Given as goal

abbrev pub invariant-counts : goal.invariant-counts
invariant-counts l = l.counts.items ≡ take l.k (alone l.n l.place l.size)
