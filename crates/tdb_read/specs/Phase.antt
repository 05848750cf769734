-- PHASE name:suffix codes number ratio ratio ..: the suffix may be missing, there are as many ratios as the number says, and the rest is unread.
use Rattle.std.specs.Prelude.{◌≡◌, ℕ, ◌≤◌, List, [], ◌∷◌, length, true, Some, pos, ◌<ℤ◌}
use Rattle.std.specs.List.{list_all}
use Rattle.cal_dec.specs.declared.dec.Dec.{Dec}
use Rattle.cal_scan.specs.Bytes.{is_digit}
use Rattle.cal_scan.specs.Numbers.{digits_value}
use Rattle.cal_scan.specs.FrontTokens.{first_token, behind_token}
use Rattle.tdb_forms.specs.Heads.{head_of}
use Rattle.tdb_forms.specs.Numbers.{IsReadable}
use Rattle.tdb_read.specs.declared.phase.PhaseText.{PhaseText}

-- a whole number from 1 to 10, which may have leading zeros
pub record IsCount (token : List ℕ) (n : ℕ) : Type 0 where
  pub digits : list_all is_digit token ≡ true
  pub value : n ≡ digits_value token
  pub least : 1 ≤ n
  pub most : n ≤ 10

-- the first tokens are these numbers, each above 0
abbrev pub AreRatios : List ℕ → List Dec → Type 0
AreRatios text [] = Unit {0}
AreRatios text (d ∷ ds) = IsReadable (first_token text) d × (pos 0 <ℤ d.mantissa) × AreRatios (behind_token text) ds

-- the text behind the command word gives this phase, without constituents
pub record IsPhase (line : ℕ) (text : List ℕ) (p : List ℕ × PhaseText) : Type 0 where
  pub head : head_of (first_token text) ≡ Some (p.0, p.1.suffix)
  pub line_is : p.1.line ≡ line
  pub codes : p.1.codes ≡ first_token (behind_token text)
  pub count : IsCount (first_token (behind_token (behind_token text))) (length p.1.ratios)
  pub ratios : AreRatios (behind_token (behind_token (behind_token text))) p.1.ratios
  pub sites : p.1.sites ≡ []
