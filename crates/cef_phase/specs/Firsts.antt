-- Workings: the best of a list, taken one by one.
use Rattle.std.specs.Prelude.{◌≡◌, ℕ, ◌*◌, ◌^◌, ◌≤◌, List, [], ◌∷◌, cond, ℤ, ◌<ℤ◌, unsigned_abs}
use Rattle.std.specs.Int.Signed.{lt_z}

-- the one so far, or the first better one of the list
abbrev pub first_greatest : (ℤ → ℤ) → ℤ → List ℤ → ℤ
first_greatest f x [] = x
first_greatest f x (y ∷ ys) = first_greatest f (cond (lt_z (f x) (f y)) y x) ys

-- x with its value, and two numbers between which each better one lies, of those that n times are within 2^117; where there
-- are numbers between the two, those outside are worse
pub record IsBest (n : ℕ) (f : ℤ → ℤ) (x value low high : ℤ) : Type 0 where
  pub small : unsigned_abs x * n ≤ 2 ^ 117
  pub exact : value ≡ f x
  pub above : (y : ℤ) → unsigned_abs y * n ≤ 2 ^ 117 → f x <ℤ f y → low <ℤ y
  pub below : (y : ℤ) → unsigned_abs y * n ≤ 2 ^ 117 → f x <ℤ f y → y <ℤ high
  pub left : low <ℤ high → (y : ℤ) → unsigned_abs y * n ≤ 2 ^ 117 → y <ℤ low → f y <ℤ f x
  pub right : low <ℤ high → (y : ℤ) → unsigned_abs y * n ≤ 2 ^ 117 → high <ℤ y → f y <ℤ f x
