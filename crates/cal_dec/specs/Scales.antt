-- Numbers in decimal places in units of a power of ten.
use Rattle.std.specs.Prelude.{ℕ, suc, ◌*◌, ◌^◌, ℤ, pos, negsuc, ◌+ℤ◌, ◌*ℤ◌, ◌<ℤ◌}
use Rattle.std.specs.Int.{int_div_euclid}
use Rattle.cal_dec.specs.Decimals.{Decimal}

-- the floor of m * 10^e
abbrev pub floor_of_scaled : ℤ → ℤ → ℤ
floor_of_scaled m (pos e) = m *ℤ pos (10 ^ e)
floor_of_scaled m (negsuc e) = int_div_euclid m (pos (10 ^ suc e))

-- the floor of the number times 10^9
abbrev pub nano_of : Decimal → ℤ
nano_of d = floor_of_scaled d.mantissa (d.exponent +ℤ pos 9)

-- n is below m * 10^e
abbrev pub IsBelowScaled : ℕ → ℤ → ℤ → Type 0
IsBelowScaled n m (pos e) = pos n <ℤ (m *ℤ pos (10 ^ e))
IsBelowScaled n m (negsuc e) = pos (n * 10 ^ suc e) <ℤ m

-- t hundredths are below the number
abbrev pub IsBelow : ℕ → Decimal → Type 0
IsBelow t d = IsBelowScaled t d.mantissa (d.exponent +ℤ pos 2)
