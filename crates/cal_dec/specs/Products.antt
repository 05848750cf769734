-- Products and powers of numbers in decimal places.
use Rattle.std.specs.Prelude.{ℕ, zero, suc, ◌^◌, ℤ, pos, negsuc, ◌+ℤ◌, ◌-ℤ◌, ◌*ℤ◌, int_div}
use Rattle.cal_dec.specs.Decimals.{Decimal, trimmed}

-- (m1 * m2) * 10^(e1 + e2), trimmed
abbrev pub product : Decimal → Decimal → Decimal
product a b = trimmed (a.mantissa *ℤ b.mantissa) (a.exponent +ℤ b.exponent)

-- the product of n copies, from the left
unfoldable pub product_of_copies : Decimal → ℕ → Decimal
product_of_copies b zero = record { mantissa = pos 1; exponent = pos 0 }
product_of_copies b (suc n) = product (product_of_copies b n) b

-- 10^36 / m, towards 0, with the exponent -36 - e, trimmed
abbrev pub inverse : Decimal → Decimal
inverse b = trimmed (int_div (pos (10 ^ 36)) b.mantissa) (negsuc 35 -ℤ b.exponent)

-- b to the power n
abbrev pub power_of : Decimal → ℤ → Decimal
power_of b (pos n) = product_of_copies b n
power_of b (negsuc n) = inverse (product_of_copies b (suc n))
