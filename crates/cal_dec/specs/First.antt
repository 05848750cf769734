-- What a number of given first digits is read as.
use Rattle.std.proofs.Common.{◌≡◌, ◌≢◌, ℕ, zero, suc, ◌/◌, ◌^◌, ◌<◌, Bool, true, false, refl, sym, ap, ◌∙◌, arith, lit<}
use Rattle.std.specs.Prelude.{ℤ, pos, ◌+ℤ◌, unsigned_abs, int_div, ◌==◌}
use Rattle.std.proofs.lemmas.Nat.{le-div}
use Rattle.std.proofs.Math.Nat.{div-mul-le_self, div-le_self}
use Rattle.std.proofs.lemmas.Bool.Decides.{nat_tests}
use Rattle.cal_dec.specs.Decimals.{digits_over, trimmed}
use Rattle.cal_dec.specs.Signs.{signed}
use Rattle.cal_dec.specs.Numerals.{decimal_from}
use Rattle.cal_dec.specs.Tens.{ten-pow-pos}
use Rattle.cal_dec.specs.Trimming.{IsFirst, first_digit, digits_over_small}

IsFirst-zero : (n m k : ℕ) → n < 10 ^ 64 → m ≡ 0 → IsFirst n m k → n ≡ 0
IsFirst-zero zero m k small none is = refl
IsFirst-zero (suc n) m k small none is =
    absurd (omega (arith, none, is.magnitude, le-div 1 (suc n) (10 ^ digits_over (suc n)) (ten-pow-pos (digits_over (suc n))) (omega (arith, first_digit (suc n) (omega arith) small))))

pub decimal_from-zero : (minus : Bool) (n m k : ℕ) (e : ℤ) → n < 10 ^ 64 → m ≡ 0 → IsFirst n m k → decimal_from minus n e ≡ record { mantissa = pos 0; exponent = pos 0 }
decimal_from-zero minus n m k e small none is = rw (IsFirst-zero n m k small none is) refl

cut : (minus : Bool) (n p : ℕ) → int_div (signed minus (suc n)) (pos p) ≡ signed minus (suc n / p)
cut false n p = refl
cut true n p = refl

magnitude : (minus : Bool) (n : ℕ) → unsigned_abs (signed minus n) ≡ n
magnitude false n = refl
magnitude true zero = refl
magnitude true (suc n) = refl

filled : (n : ℕ) → (suc n == 0) ≡ false
filled n = grind (arith, nat_tests)

pub decimal_from-exponent : (minus : Bool) (n : ℕ) (e : ℤ) → n ≢ 0 → (decimal_from minus n e).exponent ≡ e +ℤ pos (digits_over n)
unfolding trimmed
decimal_from-exponent minus zero e some = absurd (some refl)
decimal_from-exponent minus (suc n) e some = rw (filled n) (ap (λ t. e +ℤ pos (digits_over t)) (magnitude minus (suc n)))

pub decimal_from-first : (minus : Bool) (n m k : ℕ) (e : ℤ) → m ≢ 0 → IsFirst n m k → decimal_from minus n e ≡ record { mantissa = signed minus m; exponent = e +ℤ pos k }
unfolding trimmed
decimal_from-first minus zero m k e some is = absurd (some (omega (arith, is.magnitude, div-mul-le_self 0 (10 ^ digits_over 0))))
decimal_from-first minus (suc n) m k e some is =
    rw (filled n) (ap (λ t. record { mantissa = int_div (signed minus (suc n)) (pos (10 ^ digits_over t)); exponent = e +ℤ pos (digits_over t) }) (magnitude minus (suc n))
    ∙ ap (λ q. record { mantissa = q; exponent = e +ℤ pos (digits_over (suc n)) }) (cut minus n (10 ^ digits_over (suc n)))
    ∙ ap (λ q. record { mantissa = signed minus q; exponent = e +ℤ pos (digits_over (suc n)) }) (sym is.magnitude)
    ∙ ap (λ j. record { mantissa = signed minus m; exponent = e +ℤ pos j }) (sym is.dropped))

-- before the first digit
pub IsFirst-none : IsFirst 0 0 0
IsFirst-none = record { magnitude = omega (arith, div-le_self 0 (10 ^ digits_over 0)); dropped = sym (digits_over_small 0 (lit< tt)) }
