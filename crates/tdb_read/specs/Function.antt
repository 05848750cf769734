-- FUNCTION name ranged-text
use Rattle.std.specs.Prelude.{◌≡◌, ℕ, List, true}
use Rattle.cal_scan.specs.FrontTokens.{first_token, behind_token}
use Rattle.cal_scan.specs.Words.{is_name}
use Rattle.tdb_expr.specs.declared.ranged.Ranged.{Ranged}
use Rattle.tdb_forms.specs.Ranges.{IsRangedText}

-- the text behind the command word gives this function
pub record IsFunction (line : ℕ) (text : List ℕ) (f : List ℕ × Ranged) : Type 0 where
  pub token : f.0 ≡ first_token text
  pub name : is_name f.0 ≡ true
  pub ranged : IsRangedText line (behind_token text) f.1
