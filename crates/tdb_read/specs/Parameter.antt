-- PARAMETER kind(phase,array;order) ranged-text: the order may be missing. Spaces within the parentheses are dropped, and a suffix of the phase too.
use Rattle.std.specs.Prelude.{◌≡◌, ℕ, ◌-◌, List, [], ◌∷◌, cond, Option, Some, None}
use Rattle.std.specs.Option.{option_map, option_and_then}
use Rattle.cal_scan.specs.Bytes.{is_digit}
use Rattle.cal_scan.specs.Fronts.{behind_spaces}
use Rattle.cal_scan.specs.Copies.{without_spaces}
use Rattle.cal_scan.specs.Cuts.{cut_at}
use Rattle.cef_kind.specs.declared.kind.Kind.{Kind}
use Rattle.tdb_forms.specs.Heads.{head_of}
use Rattle.tdb_forms.specs.Lists.{array_of}
use Rattle.tdb_forms.specs.Kinds.{kind_of}
use Rattle.tdb_forms.specs.Ranges.{IsRangedText}
use Rattle.tdb_read.specs.declared.key.Key.{Key}
use Rattle.tdb_read.specs.declared.parameter.ParamText.{ParamText}

-- the text before `(`, that within the parentheses, and that behind them
pub record IsBracketed (text kind inner behind : List ℕ) : Type 0 where
  pub rest : List ℕ
  pub opens : cut_at 40 (behind_spaces text) ≡ Some (kind, rest)
  pub closes : cut_at 41 rest ≡ Some (inner, behind)

-- one digit
unfoldable pub order_of : List ℕ → Option ℕ
order_of (b ∷ []) = cond (is_digit b) (Some (b - 48)) None
order_of _ = None

abbrev pub ordered : List ℕ → Option (List ℕ × List ℕ) → Option (List (List (List ℕ)) × ℕ)
ordered text None = option_map (λ array. (array, 0)) (array_of text)
ordered text (Some (lists, digit)) = option_and_then (λ array. option_map (λ order. (array, order)) (order_of digit)) (array_of lists)

-- an array, and the order behind `;`, or 0
unfoldable pub array_and_order : List ℕ → Option (List (List (List ℕ)) × ℕ)
array_and_order text = ordered text (cut_at 59 text)

abbrev pub key_with : List ℕ → List ℕ → List (List (List ℕ)) × ℕ → Key
key_with kind_name phase x = record { kind_name = kind_name; phase = phase; array = x.0; order = x.1 }

-- what stands within the parentheses, without its spaces
unfoldable pub key_of : List ℕ → List ℕ → Option Key
key_of kind_name inner =
    option_and_then (λ x. option_and_then (λ head. option_map (key_with kind_name head.0) (array_and_order x.1)) (head_of x.0)) (cut_at 44 inner)

-- the kind of the text before `(`, and the key of what stands within the parentheses
unfoldable pub kind_and_key : List ℕ → List ℕ → Option (Kind × Key)
kind_and_key kind inner =
    option_and_then (λ x. option_map (λ key. (x.0, key)) (key_of x.1 (without_spaces inner))) (kind_of kind)

-- the text behind the command word gives this parameter
pub record IsParameter (line : ℕ) (text : List ℕ) (p : Key × ParamText) : Type 0 where
  pub kind : List ℕ
  pub inner : List ℕ
  pub behind : List ℕ
  pub bracketed : IsBracketed text kind inner behind
  pub key : kind_and_key kind inner ≡ Some (p.1.kind, p.0)
  pub ranged : IsRangedText line behind p.1.ranged
