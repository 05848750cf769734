-- The parts of a number one behind the other, as the code finds them: the sign, the longest front of digits, a point and the longest
-- front of digits behind it, and E with its sign and digits up to the end.
use Rattle.std.proofs.Common.{◌≡◌, ℕ, suc, ◌+◌, List, [], ◌∷◌, ◌++◌, length, take, drop, Option, Some, None, Bool, true, false, cond, refl, ap, ◌∙◌, arith}
use Rattle.std.specs.Prelude.{◌==◌, ◌&&◌, nat_lt, not, min, ℤ, pos, ◌-ℤ◌}
use Rattle.std.specs.Char.{is_ascii_digit}
use Rattle.std.specs.Str.Parse.{digits_value}
use Rattle.cal_dec.specs.Decimals.{Decimal}
use Rattle.cal_dec.specs.Signs.{signed}
use Rattle.std.specs.List.{prefix_len, list_all}
use Rattle.cal_dec.specs.Numerals.{Sign, Absent, Plus, Minus, is_minus, Power, Numeral, digits_behind, decimal_from}

-- ---- the sign

unfoldable pub sign_in : List ℕ → Sign
sign_in [] = Absent
sign_in (b ∷ bs) = cond (b == 43) Plus (cond (b == 45) Minus Absent)

unfoldable pub after_sign : List ℕ → List ℕ
after_sign [] = []
after_sign (b ∷ bs) = cond (b == 43) bs (cond (b == 45) bs (b ∷ bs))

-- ---- digits

unfoldable pub digits_in : List ℕ → List ℕ
digits_in [] = []
digits_in (b ∷ bs) = cond (is_ascii_digit b) (b ∷ digits_in bs) []

unfoldable pub after_digits : List ℕ → List ℕ
after_digits [] = []
after_digits (b ∷ bs) = cond (is_ascii_digit b) (after_digits bs) (b ∷ bs)

-- ---- a point and digits

unfoldable pub fraction_in : List ℕ → Option (List ℕ)
fraction_in [] = None
fraction_in (b ∷ bs) = cond (b == 46) (Some (digits_in bs)) None

unfoldable pub after_fraction : List ℕ → List ℕ
after_fraction [] = []
after_fraction (b ∷ bs) = cond (b == 46) (after_digits bs) (b ∷ bs)

-- ---- E, a sign and digits, or nothing

abbrev pub some_digits : List ℕ → Bool
some_digits digits = not (length digits == 0) && list_all is_ascii_digit digits

abbrev pub power_if : Bool → Sign → List ℕ → Option (Option Power)
power_if true sign digits = Some (Some (record { sign = sign; digits = digits }))
power_if false sign digits = None

unfoldable pub power_in : List ℕ → Option (Option Power)
power_in [] = Some None
power_in (b ∷ bs) = cond (b == 69) (power_if (some_digits (after_sign bs)) (sign_in bs) (after_sign bs)) None

-- ---- the front of digits by its length

same_front : (b : ℕ) (bs : List ℕ) (v : Bool) → is_ascii_digit b ≡ v → digits_in bs ≡ take (prefix_len is_ascii_digit bs) bs
    → cond v (b ∷ digits_in bs) [] ≡ take (cond v (1 + prefix_len is_ascii_digit bs) 0) (b ∷ bs)
same_front b bs true is e = ap (λ ds. b ∷ ds) e ∙ ap (λ k. take k (b ∷ bs)) (suc_is (prefix_len is_ascii_digit bs))
  where
    suc_is : (n : ℕ) → suc n ≡ 1 + n
    suc_is n = omega arith
same_front b bs false is e = refl

pub digits_in-take : (t : List ℕ) → digits_in t ≡ take (prefix_len is_ascii_digit t) t
unfolding digits_in
digits_in-take [] = refl
digits_in-take (b ∷ bs) = same_front b bs (is_ascii_digit b) refl (digits_in-take bs)

same_rest : (b : ℕ) (bs : List ℕ) (v : Bool) → is_ascii_digit b ≡ v → after_digits bs ≡ drop (prefix_len is_ascii_digit bs) bs
    → cond v (after_digits bs) (b ∷ bs) ≡ drop (cond v (1 + prefix_len is_ascii_digit bs) 0) (b ∷ bs)
same_rest b bs true is e = e ∙ ap (λ k. drop k (b ∷ bs)) (suc_is (prefix_len is_ascii_digit bs))
  where
    suc_is : (n : ℕ) → suc n ≡ 1 + n
    suc_is n = omega arith
same_rest b bs false is e = refl

pub after_digits-drop : (t : List ℕ) → after_digits t ≡ drop (prefix_len is_ascii_digit t) t
unfolding after_digits
after_digits-drop [] = refl
after_digits-drop (b ∷ bs) = same_rest b bs (is_ascii_digit b) refl (after_digits-drop bs)

-- ---- the whole

abbrev pub numeral_if : Sign → List ℕ → Option (List ℕ) → Option (Option Power) → Option Numeral
numeral_if sign whole fraction None = None
numeral_if sign whole fraction (Some power) =
    cond (nat_lt 0 (length whole + length (digits_behind fraction))) (Some (record { sign = sign; whole = whole; fraction = fraction; power = power })) None

unfoldable pub numeral_in : List ℕ → Option Numeral
numeral_in t =
    let rest = after_digits (after_sign t) in
    numeral_if (sign_in t) (digits_in (after_sign t)) (fraction_in rest) (power_in (after_fraction rest))

-- ---- a number at the front

abbrev pub behind_power : List ℕ → List ℕ → List ℕ → List ℕ
behind_power text [] rest = text
behind_power text (d ∷ ds) rest = rest

-- what stands behind E, its sign and its digits, or all where they do not stand first
unfoldable pub after_power : List ℕ → List ℕ
after_power [] = []
after_power (b ∷ bs) = cond (b == 69) (behind_power (b ∷ bs) (digits_in (after_sign bs)) (after_digits (after_sign bs))) (b ∷ bs)

abbrev pub rest_if : List ℕ → List ℕ → List ℕ → Option (List ℕ)
rest_if [] [] rest = None
rest_if whole fraction rest = Some rest

-- what stands behind the number
unfoldable pub after_number : List ℕ → Option (List ℕ)
after_number t =
    let rest = after_digits (after_sign t) in
    rest_if (digits_in (after_sign t)) (digits_behind (fraction_in rest)) (after_power (after_fraction rest))

-- ---- what the code keeps of the parts

-- the number behind E, its magnitude at most 10000
abbrev pub capped_power : Option Power → ℤ
capped_power None = pos 0
capped_power (Some p) = signed (is_minus p.sign) (min (digits_value 10 p.digits) 10000)

abbrev pub capped : Option (Option Power) → Option ℤ
capped None = None
capped (Some p) = Some (capped_power p)

pub record IsKept (n : Numeral) (minus : Bool) (before behind : List ℕ) (power : ℤ) : Type 0 where
  pub negative : minus ≡ is_minus n.sign
  pub whole : before ≡ n.whole
  pub fraction : behind ≡ digits_behind n.fraction
  pub exponent : power ≡ capped_power n.power

-- the text is that of a numeral, and these are kept of it
abbrev pub IsFound : List ℕ → Bool → List ℕ → List ℕ → ℤ → Type 0
IsFound text minus before behind power = (n : Numeral) × (numeral_in text ≡ Some n) × IsKept n minus before behind power

-- what is read of the parts that are kept
abbrev pub decimal_kept : Bool → List ℕ → List ℕ → ℤ → Decimal
decimal_kept minus before behind power = decimal_from minus (digits_value 10 (before ++ behind)) (power -ℤ pos (length behind))
