-- Ranged texts: a low limit, and pieces, each an expression with its high limit.
use Rattle.std.specs.Prelude.{◌≡◌, ℕ, List, [], ◌∷◌, drop, Bool, ◌||◌, ◌==◌, Some, pos, ◌⊎◌}
use Rattle.std.specs.List.{prefix_len}
use Rattle.cal_dec.specs.declared.dec.Dec.{Dec}
use Rattle.cal_dec.specs.Decimals.{decimal_of, whole_number}
use Rattle.cal_dec.specs.Fronts.{HasNoNumber}
use Rattle.cal_scan.specs.Fronts.{behind_spaces}
use Rattle.cal_scan.specs.Cuts.{cut_at}
use Rattle.tdb_expr.specs.declared.ranged.Piece.{Piece}
use Rattle.tdb_expr.specs.declared.ranged.Ranged.{Ranged}
use Rattle.tdb_expr.specs.Grammar.{IsReading}
use Rattle.tdb_forms.specs.Numbers.{BeginsWithNumber}

-- a space or a comma
abbrev pub is_separator : ℕ → Bool
is_separator b = b == 32 || b == 44

unfoldable pub behind_separators : List ℕ → List ℕ
behind_separators text = drop (prefix_len is_separator text) text

-- the high limit at the front of the text: a number, or 6000 K where none stands there
abbrev pub IsHigh : List ℕ → Dec → List ℕ → Type 0
IsHigh text high rest = BeginsWithNumber text high rest ⊎ (HasNoNumber text × (decimal_of high ≡ whole_number (pos 6000)) × (rest ≡ text))

-- an expression up to `;`, and its high limit, behind spaces and commas; `rest` stands behind it and further spaces and commas
pub record IsPiece (text : List ℕ) (piece : Piece) (rest : List ℕ) : Type 0 where
  pub expression : List ℕ
  pub limit : List ℕ
  pub after : List ℕ
  pub cut : cut_at 59 text ≡ Some (expression, limit)
  pub expr : IsReading expression piece.expr
  pub high : IsHigh (behind_separators limit) piece.high after
  pub rest_is : rest ≡ behind_separators after

-- the end of the command, or `N`, behind which nothing is read
abbrev pub IsEnd : List ℕ → Type 0
IsEnd text = (text ≡ []) ⊎ ((unread : List ℕ) × (text ≡ 78 ∷ unread))

-- one piece or more; behind each but the last stands `Y`, and behind that the next
abbrev pub ArePieces : List ℕ → List Piece → Type 0
ArePieces text [] = ⊥
ArePieces text (p ∷ []) = (rest : List ℕ) × IsPiece text p rest × IsEnd rest
ArePieces text (p ∷ q ∷ ps) = (rest : List ℕ) × IsPiece text p (89 ∷ rest) × ArePieces rest (q ∷ ps)

-- the low limit, behind spaces, and the pieces
pub record IsRangedText (line : ℕ) (text : List ℕ) (ranged : Ranged) : Type 0 where
  pub low : Dec
  pub behind : List ℕ
  pub begins : BeginsWithNumber (behind_spaces text) low behind
  pub line_is : ranged.line ≡ line
  pub pieces : ArePieces behind ranged.pieces
