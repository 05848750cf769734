-- The kinds of bytes. Letters are capitals.
use Rattle.std.specs.Prelude.{ℕ, Bool, ◌&&◌, ◌||◌, ◌==◌, nat_lt}
use Rattle.cal_scan.specs.declared.byte.TheConstants.{UNDERSCORE}

-- from A to Z: the bytes 65 to 90
abbrev pub is_letter : ℕ → Bool
is_letter b = nat_lt 64 b && nat_lt b 91

-- from 0 to 9: the bytes 48 to 57
abbrev pub is_digit : ℕ → Bool
is_digit b = nat_lt 47 b && nat_lt b 58

-- a letter, a digit or `_`
abbrev pub is_name_byte : ℕ → Bool
is_name_byte b = is_letter b || (is_digit b || b == UNDERSCORE)
