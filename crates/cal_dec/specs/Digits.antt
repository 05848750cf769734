-- Digits and the numbers that they write.
use Rattle.std.proofs.Common.{◌≡◌, ℕ, ◌+◌, ◌-◌, ◌^◌, ◌<◌, ◌≤◌, List, [], ◌∷◌, ◌++◌, length, length-append, arith}
use Rattle.std.specs.Char.{digit_value}
use Rattle.std.specs.Str.Parse.{AllDigits, digits_value}
use Rattle.std.proofs.lemmas.Int.Digits.{digits_value-lt}
use Rattle.std.proofs.lemmas.Bool.Decides.{nat_tests}
use Rattle.cal_dec.specs.Tens.{ten-pow-le}

pub digit_value-is : (b : ℕ) → 48 ≤ b → b ≤ 57 → digit_value b ≡ b - 48
digit_value-is b low high = grind (arith, nat_tests)

pub all_append : (xs ys : List ℕ) → AllDigits 10 xs → AllDigits 10 ys → AllDigits 10 (xs ++ ys)
all_append [] ys a b = b
all_append (x ∷ xs) ys a b = (a.0, all_append xs ys a.1 b)

pub digits_value-small : (xs ys : List ℕ) → AllDigits 10 xs → AllDigits 10 ys → length xs + length ys ≤ 64 → digits_value 10 (xs ++ ys) < 10 ^ 64
digits_value-small xs ys a b few =
    omega (arith, digits_value-lt 10 (xs ++ ys) (all_append xs ys a b), ten-pow-le (length (xs ++ ys)) 64 (omega (arith, length-append xs ys)))
