use Rattle.std.proofs.Common.{◌≡◌, ℕ, ◌<◌, length}
use Rattle.cal_math.specs.Vectors.{at}
use Rattle.lp_stage.specs.Leaving.{start_product}
use Rattle.lp_stage.proofs.leaving.list_of.Given as goal

abbrev pub invariant-starts : goal.invariant-starts
invariant-starts l = record {
  sized : length l.list.items ≡ l.k;
  every : (k : ℕ) → k < l.k → at l.list.items k ≡ start_product (length l.row) l.starts l.row k;
}
