-- The potentials and the amounts of a plan, in whole numbers.
use Rattle.std.specs.Prelude.{ℕ, ◌+◌, ◌<◌, ◌≤◌, List, length, slice_index_or, ℤ, pos, ◌-ℤ◌, ◌*ℤ◌, ◌≤ℤ◌, ◌<ℤ◌}
use Rattle.std.specs.Int.{int_div_euclid}
use Rattle.cal_math.specs.Vectors.{at, sum_to, dot}
use Rattle.lp_basis.specs.declared.column.Column.{Column}
use Rattle.lp_core.specs.Plans.{Weight}

-- M = floor (2^16 * number / denominator) - margin
abbrev pub lowered : ℤ → ℕ → ℤ → ℤ
lowered denominator margin number = int_div_euclid (pos 65536 *ℤ number) denominator -ℤ pos margin

-- the weight in whole parts: floor (weight / parts)
abbrev pub floored : ℤ → Weight → Weight
floored parts w = (w.0, int_div_euclid w.1 parts)

-- the potentials lie below the column by the margin for each unit of its content: margin * sum b <= 2^16*G - M*b
abbrev pub IsClear : ℕ → List ℤ → Column → Type 0
IsClear margin potentials column =
    (pos margin *ℤ sum_to (length potentials) (at column.amounts.items))
    ≤ℤ (pos 65536 *ℤ column.cost -ℤ dot (length potentials) (at potentials) (at column.amounts.items))

-- and by less than one more: 2^16*G - M*b < (margin + 1) * sum b
abbrev pub IsNear : ℕ → List ℤ → Column → Type 0
IsNear margin potentials column =
    (pos 65536 *ℤ column.cost -ℤ dot (length potentials) (at potentials) (at column.amounts.items))
    <ℤ (pos (margin + 1) *ℤ sum_to (length potentials) (at column.amounts.items))

-- the place among rising weights before which a column stands
pub record IsPlaceAmong (weights : List Weight) (column place : ℕ) : Type 0 where
  pub within : place ≤ length weights
  pub before : (k : ℕ) (d : Weight) → k < place → (slice_index_or weights k d).0 ≤ column
  pub behind : (d : Weight) → place < length weights → column < (slice_index_or weights place d).0
