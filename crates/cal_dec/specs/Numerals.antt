-- Numbers as they are written: an optional sign, digits with at most one point before, among or behind them, and
-- optionally E with an optional sign and digits; and what such a text is read as.
use Rattle.std.specs.Prelude.{◌≡◌, ℕ, ◌+◌, ◌<◌, ◌≤◌, List, [], ◌∷◌, ◌++◌, length, Option, Some, None, Bool, true, false, cond, ◌==◌, ℤ, pos, ◌-ℤ◌}
use Rattle.std.specs.Str.Parse.{AllDigits, digits_value}
use Rattle.cal_dec.specs.Decimals.{Decimal, trimmed}
use Rattle.cal_dec.specs.Signs.{signed}

pub data Sign : Type 0 where
  Absent : Sign
  Plus : Sign
  Minus : Sign

abbrev pub is_minus : Sign → Bool
is_minus Absent = false
is_minus Plus = false
is_minus Minus = true

-- nothing, '+' or '-'
abbrev pub sign_text : Sign → List ℕ
sign_text Absent = []
sign_text Plus = 43 ∷ []
sign_text Minus = 45 ∷ []

-- the sign and the digits behind E
pub record Power : Type 0 where
  pub sign : Sign
  pub digits : List ℕ

-- the parts of a number: its sign, the digits before the point, those behind it if there is one, and what stands behind E if it is there
pub record Numeral : Type 0 where
  pub sign : Sign
  pub whole : List ℕ
  pub fraction : Option (List ℕ)
  pub power : Option Power

abbrev pub digits_behind : Option (List ℕ) → List ℕ
digits_behind None = []
digits_behind (Some digits) = digits

-- '.' and the digits behind it
abbrev pub fraction_text : Option (List ℕ) → List ℕ
fraction_text None = []
fraction_text (Some digits) = 46 ∷ digits

-- 'E', the sign and the digits behind it
abbrev pub power_text : Option Power → List ℕ
power_text None = []
power_text (Some p) = 69 ∷ (sign_text p.sign ++ p.digits)

abbrev pub numeral_text : Numeral → List ℕ
numeral_text n = sign_text n.sign ++ (n.whole ++ (fraction_text n.fraction ++ power_text n.power))

abbrev pub IsPower : Option Power → Type 0
IsPower None = Unit {0}
IsPower (Some p) = (0 < length p.digits) × AllDigits 10 p.digits

-- the parts are digits, at least one before or behind the point, and at least one behind E
pub record IsNumeral (n : Numeral) : Type 0 where
  pub whole : AllDigits 10 n.whole
  pub fraction : AllDigits 10 (digits_behind n.fraction)
  pub some : 0 < length n.whole + length (digits_behind n.fraction)
  pub power : IsPower n.power

-- the text is that of these parts
pub record Spells (n : Numeral) (text : List ℕ) : Type 0 where
  pub parts : IsNumeral n
  pub text_is : text ≡ numeral_text n

abbrev pub IsNumber : List ℕ → Type 0
IsNumber text = (n : Numeral) × Spells n text

-- the digits as one number, without the point
abbrev pub magnitude_of : Numeral → ℕ
magnitude_of n = digits_value 10 (n.whole ++ digits_behind n.fraction)

abbrev pub power_of_ten : Option Power → ℤ
power_of_ten None = pos 0
power_of_ten (Some p) = signed (is_minus p.sign) (digits_value 10 p.digits)

-- the exponent of the last digit: that behind E less the number of digits behind the point
abbrev pub exponent_of : Numeral → ℤ
exponent_of n = power_of_ten n.power -ℤ pos (length (digits_behind n.fraction))

-- a number of these digits, cut to 18 of them; 0 has the exponent 0
abbrev pub decimal_from : Bool → ℕ → ℤ → Decimal
decimal_from minus magnitude exponent =
    cond (magnitude == 0) (record { mantissa = pos 0; exponent = pos 0 }) (trimmed (signed minus magnitude) exponent)

-- what the number is read as
abbrev pub value_of : Numeral → Decimal
value_of n = decimal_from (is_minus n.sign) (magnitude_of n) (exponent_of n)

-- the text is at most 64 bytes, and read as d
abbrev pub IsReadAs : List ℕ → Decimal → Type 0
IsReadAs text d = (n : Numeral) × Spells n text × (value_of n ≡ d) × (length text ≤ 64)
