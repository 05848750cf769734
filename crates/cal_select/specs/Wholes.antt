-- Numbers of a database as whole numbers.
use Rattle.std.specs.Prelude.{ℕ, suc, ◌+◌, ◌*◌, ◌/◌, ◌%◌, ◌^◌, nat_le, min, List, map, Bool, ◌&&◌, Option, Some, None, is_some, if◌then◌else◌, ◌==◌, ℤ, pos, negsuc, unsigned_abs, int_lt}
use Rattle.std.specs.List.{list_all, find, range_with_len}
use Rattle.std.specs.Option.{unwrap_or, option_map}
use Rattle.cal_limits.specs.declared.TheConstants.{MOST_RATIO_DECIMALS, MOST_RATIOS}
use Rattle.cal_dec.specs.declared.dec.Dec.{Dec}

-- the number, where it is within the bounds
abbrev pub between : ℕ → ℕ → Option ℕ → Option ℕ
between least most None = None
between least most (Some n) = if nat_le least n && nat_le n most then Some n else None

-- m * 10^exponent * 10^d, where that is whole
abbrev pub scaled_by : ℕ → ℕ → ℤ → Option ℕ
scaled_by d m (pos e) = Some (m * 10 ^ (d + e))
scaled_by d m (negsuc e) = if (m * 10 ^ d) % 10 ^ suc e == 0 then Some (m * 10 ^ d / 10 ^ suc e) else None

-- the magnitude of a number times 10^d, where that is whole
unfoldable pub scaled : ℕ → Dec → Option ℕ
scaled d x = scaled_by d (unsigned_abs x.mantissa) x.exponent

-- d decimals are enough for the number
abbrev pub is_whole_at : ℕ → Dec → Bool
is_whole_at d x = is_some (scaled d x)

-- d: the least number of decimals up to 5 that is enough for all ratios
unfoldable pub decimals_of : List Dec → Option ℕ
decimals_of ratios = find (λ d. list_all (is_whole_at d) ratios) (range_with_len 0 (MOST_RATIO_DECIMALS + 1))

-- the ratios times 10^d
abbrev pub whole_ratios : ℕ → List Dec → List ℕ
whole_ratios d ratios = map (λ ratio. unwrap_or (scaled d ratio) 0) ratios

abbrev pub is_negative : Dec → Bool
is_negative x = int_lt x.mantissa (pos 0)

-- the magnitude of an antiferromagnetic factor, where that is a whole number from -9 to -1
unfoldable pub factor_of : Dec → Option ℕ
factor_of x = if is_negative x then between 1 9 (scaled 0 x) else None

-- a fraction from 0.1 to 1 of at most 4 decimals, in ten-thousandths
unfoldable pub ten_thousandths_of : Dec → Option ℕ
ten_thousandths_of x = if is_negative x then None else between 1000 10000 (scaled 4 x)

-- ---- workings

abbrev pub capped_ratio : ℕ → Dec → ℕ
capped_ratio d ratio = unwrap_or (option_map (min (MOST_RATIOS + 1)) (scaled d ratio)) 0
