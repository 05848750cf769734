-- What every database keeps of its expressions.
use Rattle.std.specs.Prelude.{◌≡◌, ℕ, ◌<◌, ◌≤◌, List, length, Some, slice_get, unsigned_abs}
use Rattle.tdb_expr.specs.declared.factor.Factor.{Factor}
use Rattle.tdb_expr.specs.declared.factor.Factor.TheVariants.{Number, T, Power, LnT, Name}
use Rattle.tdb_expr.specs.declared.product.Product.{Product}
use Rattle.tdb_expr.specs.declared.expression.Expr.{Expr}
use Rattle.tdb_expr.specs.declared.expression.Expr.TheVariants.{Sum, Unsupported}
use Rattle.tdb_expr.specs.declared.ranged.Piece.{Piece}
use Rattle.tdb_expr.specs.declared.ranged.Ranged.{Ranged}

-- a number of an exponent from -200 to 200, a power from -20 to 20
abbrev pub IsFactor : Factor → Type 0
IsFactor (Number d) = unsigned_abs d.exponent ≤ 200
IsFactor (Power n) = unsigned_abs n ≤ 20
IsFactor T = Unit {0}
IsFactor LnT = Unit {0}
IsFactor (Name name) = Unit {0}

-- 1 to 16 factors
pub record IsProduct (p : Product) : Type 0 where
  pub least : 0 < length p.factors
  pub most : length p.factors ≤ 16
  pub factors : (j : ℕ) (x : Factor) → slice_get p.factors j ≡ Some x → IsFactor x

-- one product or more
pub record AreProducts (products : List Product) : Type 0 where
  pub least : 0 < length products
  pub each : (k : ℕ) (p : Product) → slice_get products k ≡ Some p → IsProduct p

abbrev pub IsExpr : Expr → Type 0
IsExpr (Sum products) = AreProducts products
IsExpr Unsupported = Unit {0}

-- a limit of an exponent from -200 to 200
pub record IsPiece (piece : Piece) : Type 0 where
  pub high : unsigned_abs piece.high.exponent ≤ 200
  pub expr : IsExpr piece.expr

-- one piece or more
pub record IsRanged (ranged : Ranged) : Type 0 where
  pub least : 0 < length ranged.pieces
  pub pieces : (i : ℕ) (piece : Piece) → slice_get ranged.pieces i ≡ Some piece → IsPiece piece
