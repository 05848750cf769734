-- The expression of a ranged text that holds at a temperature.
use Rattle.std.specs.Prelude.{◌≡◌, ℕ, ◌+◌, ◌<◌, List, length, Some, slice_get, ◌⊎◌}
use Rattle.cal_dec.specs.Decimals.{decimal_of}
use Rattle.cal_dec.specs.Scales.{IsBelow}
use Rattle.tdb_expr.specs.declared.ranged.Piece.{Piece}
use Rattle.tdb_expr.specs.declared.expression.Expr.{Expr}

-- the expression of the first piece whose high limit is above t hundredths of a kelvin, or of the last piece
pub record Holds (t : ℕ) (pieces : List Piece) (expr : Expr) : Type 0 where
  pub place : ℕ
  pub piece : Piece
  pub stands : slice_get pieces place ≡ Some piece
  pub expr_is : piece.expr ≡ expr
  pub earlier : (i : ℕ) (other : Piece) → i < place → slice_get pieces i ≡ Some other → IsBelow t (decimal_of other.high) → ⊥
  pub here : IsBelow t (decimal_of piece.high) ⊎ (place + 1 ≡ length pieces)
