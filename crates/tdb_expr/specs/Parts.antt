-- Factors and products by the values of their numbers.
use Rattle.std.specs.Prelude.{ℕ, List, map, Bool, ℤ}
use Rattle.cal_dec.specs.Decimals.{Decimal, decimal_of}
use Rattle.tdb_expr.specs.declared.factor.Factor.{Factor}
use Rattle.tdb_expr.specs.declared.factor.Factor.TheVariants as f
use Rattle.tdb_expr.specs.declared.product.Product.{Product}

pub data Part : Type 0 where
  Number : Decimal → Part
  T : Part
  Power : ℤ → Part
  LnT : Part
  Name : List ℕ → Part

abbrev pub part_of : Factor → Part
part_of (f.Number d) = Number (decimal_of d)
part_of f.T = T
part_of (f.Power n) = Power n
part_of f.LnT = LnT
part_of (f.Name name) = Name name

pub record Term : Type 0 where
  pub negative : Bool
  pub parts : List Part

abbrev pub term_of : Product → Term
term_of p = record { negative = p.negative; parts = map part_of p.factors }
