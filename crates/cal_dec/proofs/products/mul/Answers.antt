use Rattle.std.proofs.Common.{◌≡◌, to_z, of_z, arith, rules}
use Rattle.std.specs.Prelude.{ℤ, ◌+ℤ◌, ◌*ℤ◌, FitsSigned}
use Rattle.std.specs.Int.{w16, w128}
use Rattle.std.proofs.lemmas.Int.{to_z-of_z, fits_signed_from_abs}
use Rattle.cal_dec.specs.Decimals.{Decimal, trimmed}
use Rattle.cal_dec.proofs.products.mul.Goals as goal

exact : (r : Decimal) (m a b x y : ℤ) → FitsSigned w128 m → FitsSigned w16 x → FitsSigned w16 y → FitsSigned w16 (x +ℤ y) → m ≡ a *ℤ b
    → r ≡ trimmed (to_z w128 (of_z w128 m)) (to_z w16 (of_z w16 (to_z w16 (of_z w16 x) +ℤ to_z w16 (of_z w16 y)))) → r ≡ trimmed (a *ℤ b) (x +ℤ y)
exact r m a b x y fm fx fy fs p h = rw (← p) (rw (to_z-of_z w128 m fm, to_z-of_z w16 x fx, to_z-of_z w16 y fy, to_z-of_z w16 (x +ℤ y) fs) at h)

pub returns : goal.returns
returns c =
    exact _ _ c.args.a.mantissa c.args.b.mantissa c.args.a.exponent c.args.b.exponent (search rules) (search rules) (search rules) (fits_signed_from_abs w16 (c.args.a.exponent +ℤ c.args.b.exponent) (omega arith)) c.mantissa_of_product.ensures c.trimmed.ensures
