-- When a path ends.
use Rattle.std.specs.Prelude.{◌≡◌, ℕ, ◌+◌, ◌<◌, List, All, Option, Some, None, ℤ, pos, ◌*ℤ◌, ◌≤ℤ◌}
use Rattle.cal_math.specs.Sums.{sum_of}
use Rattle.cef_path.specs.declared.start.PathStart.{PathStart}
use Rattle.cef_path.specs.declared.finish.Finish.{Finish}
use Rattle.cef_path.specs.declared.finish.Finish.TheVariants.{NoLiquid, Fraction, Temperature}

-- nothing of any element is left
abbrev pub IsNone : List ℤ → Type 0
IsNone left = All (λ n. n ≡ pos 0) left

-- what is left is at most the asked fraction of what was there first: sum(left)*10^6 <= stop*sum(first asked)
abbrev pub IsFraction : PathStart → List ℤ → Type 0
IsFraction start left = (sum_of (λ n. n) left *ℤ pos 1000000) ≤ℤ (pos start.stop *ℤ sum_of (λ n. n) start.asked)

-- the next temperature would be below the lowest one: t - descent < floor, where t may be below the descent
abbrev pub IsLast : PathStart → ℕ → Type 0
IsLast start t = t < start.floor + start.descent

-- The finish of a step at temperature t that leaves so much: the first of the three that is so, or none.
abbrev pub FinishIs : PathStart → ℕ → List ℤ → Option Finish → Type 0
FinishIs start t left (Some NoLiquid) = IsNone left
FinishIs start t left (Some Fraction) = ¬ IsNone left × IsFraction start left
FinishIs start t left (Some Temperature) = ¬ IsNone left × ¬ IsFraction start left × IsLast start t
FinishIs start t left None = ¬ IsNone left × ¬ IsFraction start left × ¬ IsLast start t
