-- The text of a whole number of at most 18 digits is read as that number.
use Rattle.std.proofs.Common.{◌≡◌, ℕ, zero, suc, ◌^◌, ◌<◌, [], ◌++◌, append-nil, None, false, true, Bool, refl, sym, ap, ◌∙◌, arith}
use Rattle.std.specs.Prelude.{ℤ, pos, negsuc, unsigned_abs, ◌==◌}
use Rattle.std.specs.Fmt.{decimal, signed_decimal}
use Rattle.std.specs.Str.Parse.{digits_value}
use Rattle.std.proofs.lemmas.Fmt.{decimal_is_IsNumeral_wide, length-decimal-le_wide}
use Rattle.std.proofs.lemmas.Bool.Decides.{nat_tests}
use Rattle.cal_dec.specs.Decimals.{whole_number}
use Rattle.cal_dec.specs.Numerals.{Sign, Absent, Minus, Numeral, Spells, decimal_from, IsReadAs, is_minus, sign_text, value_of}
use Rattle.cal_dec.specs.Signs.{signed}
use Rattle.cal_dec.specs.Trimming.{trimmed_small}

-- a number without point and exponent
plain : Sign → ℕ → Numeral
plain sign n = record { sign = sign; whole = decimal n; fraction = None; power = None }

plain_spells : (sign : Sign) (n : ℕ) → n < 10 ^ 64 → Spells (plain sign n) (sign_text sign ++ decimal n)
unfolding plain
plain_spells sign n small =
    let is = decimal_is_IsNumeral_wide n small in
    record {
      parts = record { whole = is.0.1; fraction = tt; some = omega (arith, is.0.0); power = tt };
      text_is = ap (λ t. sign_text sign ++ t) (sym (append-nil (decimal n)));
    }

from_small : (minus : Bool) (n : ℕ) → n < 10 ^ 18 → decimal_from minus n (pos 0) ≡ whole_number (signed minus n)
from_small false zero small = refl
from_small true zero small = refl
from_small false (suc n) small = rw (filled n) (trimmed_small (pos (suc n)) (pos 0) small)
  where
    filled : (n : ℕ) → (suc n == 0) ≡ false
    filled n = grind (arith, nat_tests)
from_small true (suc n) small = rw (filled n) (trimmed_small (negsuc n) (pos 0) small)
  where
    filled : (n : ℕ) → (suc n == 0) ≡ false
    filled n = grind (arith, nat_tests)

plain_value : (sign : Sign) (n : ℕ) → n < 10 ^ 18 → value_of (plain sign n) ≡ whole_number (signed (is_minus sign) n)
unfolding plain
plain_value sign n small =
    let is = decimal_is_IsNumeral_wide n (omega arith) in
    let value : digits_value 10 (decimal n ++ []) ≡ n = ap (digits_value 10) (append-nil (decimal n)) ∙ is.1 in
    ap (λ v. decimal_from (is_minus sign) v (pos 0)) value ∙ from_small (is_minus sign) n small

pub printed_whole_is_read : (z : ℤ) → unsigned_abs z < 10 ^ 18 → IsReadAs (signed_decimal z) (whole_number z)
printed_whole_is_read (pos n) small = (plain Absent n, plain_spells Absent n (omega arith), plain_value Absent n small, omega (arith, length-decimal-le_wide 18 n (omega arith) small (omega arith)))
printed_whole_is_read (negsuc n) small = (plain Minus (suc n), plain_spells Minus (suc n) (omega arith), plain_value Minus (suc n) small, omega (arith, length-decimal-le_wide 18 (suc n) (omega arith) small (omega arith)))
