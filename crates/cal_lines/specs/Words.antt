-- Words that are whole numbers.
use Rattle.std.specs.Prelude.{ℕ, zero, suc, [], ◌∷◌, Option, Some, None, Bool, false, cond, not, ◌&&◌, ◌==◌, nat_le, ℤ, pos, negsuc}
use Rattle.std.specs.List.{list_all}
use Rattle.cal_scan.specs.Bytes.{is_digit}
use Rattle.cal_scan.specs.Numbers.{digits_value}
use Rattle.cal_scan.specs.Lines.{Word}
use Rattle.cal_scan.specs.declared.byte.TheConstants.{MINUS, ZERO}

-- digits with no zero in front, but for the number 0 itself
abbrev pub is_plain : Word → Bool
is_plain [] = false
is_plain (b ∷ []) = is_digit b
is_plain (b ∷ c ∷ bs) = not (b == ZERO) && list_all is_digit (b ∷ c ∷ bs)

-- the value of such digits, up to the limit
unfoldable pub natural_of : ℕ → Word → Option ℕ
natural_of limit w = cond (is_plain w && nat_le (digits_value w) limit) (Some (digits_value w)) None

abbrev pub as_positive : Option ℕ → Option ℤ
as_positive None = None
as_positive (Some n) = Some (pos n)

abbrev pub as_negative : Option ℕ → Option ℤ
as_negative None = None
as_negative (Some zero) = None
as_negative (Some (suc n)) = Some (negsuc n)

-- the same with `-` in front of a number below 0, for a magnitude up to the limit
unfoldable pub integer_of : ℕ → Word → Option ℤ
integer_of limit [] = None
integer_of limit (b ∷ bs) = cond (b == MINUS) (as_negative (natural_of limit bs)) (as_positive (natural_of limit (b ∷ bs)))
