-- How a ranged text goes on behind a piece, and what is kept of its pieces.
use Rattle.std.specs.Prelude.{◌≡◌, ℕ, ◌<◌, List, ◌∷◌, length, Some, slice_get}
use Rattle.std.specs.Borrow.{Bor}
use Rattle.tdb_expr.specs.declared.ranged.Piece.{Piece}
use Rattle.tdb_expr.specs.Forms.{IsPiece}
use Rattle.tdb_forms.specs.declared.pieces.Behind.{Behind}
use Rattle.tdb_forms.specs.declared.pieces.Behind.TheVariants.{End, Next, Other}
use Rattle.tdb_forms.specs.Ranges.{IsEnd}

abbrev pub GoesOn : List ℕ → Behind → Type 0
GoesOn text End = IsEnd text
GoesOn text (Next rest) = text ≡ 89 ∷ rest.now
GoesOn text Other = (IsEnd text → ⊥) × ((rest : List ℕ) → text ≡ 89 ∷ rest → ⊥)

pub record EachIsFine (pieces : List Piece) : Type 0 where
  pub least : 0 < length pieces
  pub each : (i : ℕ) (piece : Piece) → slice_get pieces i ≡ Some piece → IsPiece piece
