-- The greatest sum and the dearest cost of a front of the columns.
use Rattle.std.proofs.Common.{◌≡◌, ℕ, zero, suc, ◌<◌, ◌≤◌, List, [], ◌∷◌, length, get_or, take, arith, max, refl}
use Rattle.std.specs.Prelude.{unsigned_abs}
use Rattle.lp_basis.specs.Columns.{sum_at}
use Rattle.lp_core.specs.Fitting.{widest, dearest}
use Rattle.lp_basis.specs.declared.column.Column.{Column}

pub widest-more : (n i : ℕ) (columns : List Column) (d : Column) → i < length columns → widest n (take (suc i) columns) ≡ max (sum_at n (get_or columns i d)) (widest n (take i columns))
unfolding widest
widest-more n i [] d lt = absurd (omega arith)
widest-more n zero (x ∷ columns) d lt = refl
widest-more n (suc i) (x ∷ columns) d lt = omega (arith, widest-more n i columns d (omega arith))

pub dearest-more : (i : ℕ) (columns : List Column) (d : Column) → i < length columns → dearest (take (suc i) columns) ≡ max (unsigned_abs (get_or columns i d).cost) (dearest (take i columns))
unfolding dearest
dearest-more i [] d lt = absurd (omega arith)
dearest-more zero (x ∷ columns) d lt = refl
dearest-more (suc i) (x ∷ columns) d lt = omega (arith, dearest-more i columns d (omega arith))

pub sum-le_widest : (n i : ℕ) (columns : List Column) (d : Column) → i < length columns → sum_at n (get_or columns i d) ≤ widest n columns
unfolding widest
sum-le_widest n i [] d lt = absurd (omega arith)
sum-le_widest n zero (x ∷ columns) d lt = omega arith
sum-le_widest n (suc i) (x ∷ columns) d lt = omega (arith, sum-le_widest n i columns d (omega arith))

pub cost-le_dearest : (i : ℕ) (columns : List Column) (d : Column) → i < length columns → unsigned_abs (get_or columns i d).cost ≤ dearest columns
unfolding dearest
cost-le_dearest i [] d lt = absurd (omega arith)
cost-le_dearest zero (x ∷ columns) d lt = omega arith
cost-le_dearest (suc i) (x ∷ columns) d lt = omega (arith, cost-le_dearest i columns d (omega arith))

pub one-le_widest : (n : ℕ) (columns : List Column) → 1 ≤ widest n columns
unfolding widest
one-le_widest n [] = omega arith
one-le_widest n (x ∷ columns) = omega (arith, one-le_widest n columns)
