use Rattle.std.proofs.Common.{◌≡◌, ℕ, ◌<◌, Some}
use Rattle.std.specs.Prelude.{slice_get}
use Rattle.cal_dec.specs.Decimals.{decimal_of}
use Rattle.cal_dec.specs.Scales.{IsBelow}
use Rattle.tdb_expr.specs.declared.ranged.Piece.{Piece}
use Rattle.temp_fun.proofs.piece.chosen.Given as goal

abbrev pub invariant-pieces : goal.invariant-pieces
invariant-pieces l = (k : ℕ) (other : Piece) → k < l.i → slice_get l.pieces k ≡ Some other → IsBelow l.t (decimal_of other.high) → ⊥
