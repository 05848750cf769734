-- The text of a number with a fixed count of decimals.
use Rattle.std.specs.Prelude.{ℕ, zero, suc, ◌+◌, ◌/◌, ◌%◌, ◌^◌, List, [], ◌∷◌, ◌++◌}
use Rattle.std.specs.Fmt.{decimal}

-- the last digits of n, as many as places, with leading zeros
unfoldable pub last_digits : ℕ → ℕ → List ℕ
last_digits zero n = []
last_digits (suc places) n = last_digits places (n / 10) ++ (48 + n % 10) ∷ []

-- a point and the decimals, or nothing where there are none
abbrev pub decimals : ℕ → ℕ → List ℕ
decimals zero n = []
decimals (suc places) n = 46 ∷ last_digits (suc places) n

-- n / 10^places, with as many decimals as places
abbrev pub fixed_text : ℕ → ℕ → List ℕ
fixed_text n places = decimal (n / 10 ^ places) ++ decimals places n
