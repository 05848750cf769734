-- Whole numbers in decimal digits.
use Rattle.std.specs.Prelude.{ℕ, ◌+◌, ◌-◌, ◌*◌, ◌^◌, List, [], ◌∷◌, length, take, drop, Bool, false, cond, ◌&&◌, nat_lt, Option, Some, None}
use Rattle.std.specs.List.{list_all, prefix_len}
use Rattle.cal_scan.specs.Bytes.{is_digit}
use Rattle.cal_scan.specs.declared.byte.TheConstants.{ZERO}

-- Σ over the digits of digit * 10^(digits behind it)
unfoldable pub digits_value : List ℕ → ℕ
digits_value [] = 0
digits_value (d ∷ ds) = (d - ZERO) * 10 ^ length ds + digits_value ds

-- a text of 1 to `most` digits
abbrev pub is_whole : ℕ → List ℕ → Bool
is_whole most [] = false
is_whole most (d ∷ ds) = nat_lt (length (d ∷ ds)) (most + 1) && list_all is_digit (d ∷ ds)

-- its value
unfoldable pub whole : ℕ → List ℕ → Option ℕ
whole most text = cond (is_whole most text) (Some (digits_value text)) None

-- all digits at the front of a text, and what is behind them
unfoldable pub digits_at : List ℕ → List ℕ × List ℕ
digits_at text = (take (prefix_len is_digit text) text, drop (prefix_len is_digit text) text)
