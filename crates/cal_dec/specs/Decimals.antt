-- Numbers in decimal places, and trimming: of more than 18 digits the lowest are dropped, towards 0.
use Rattle.std.specs.Prelude.{ℕ, ◌-◌, ◌^◌, ℤ, pos, ◌+ℤ◌, unsigned_abs, int_div, length}
use Rattle.std.specs.Fmt.{decimal}
use Rattle.cal_dec.specs.declared.dec.Dec.{Dec}

-- mantissa * 10^exponent
pub record Decimal : Type 0 where
  pub mantissa : ℤ
  pub exponent : ℤ

abbrev pub decimal_of : Dec → Decimal
decimal_of d = record { mantissa = d.mantissa; exponent = d.exponent }

-- a whole number
abbrev pub whole_number : ℤ → Decimal
whole_number z = record { mantissa = z; exponent = pos 0 }

-- how many of its digits a number has above 18
unfoldable pub digits_over : ℕ → ℕ
digits_over n = length (decimal n) - 18

-- mantissa * 10^exponent without the lowest digits above 18, each dropped digit raising the exponent by one
unfoldable pub trimmed : ℤ → ℤ → Decimal
trimmed mantissa exponent =
    let dropped = digits_over (unsigned_abs mantissa) in
    record { mantissa = int_div mantissa (pos (10 ^ dropped)); exponent = exponent +ℤ pos dropped }
