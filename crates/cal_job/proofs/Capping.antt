-- Numbers up to the cap.
use Rattle.std.proofs.Common.{◌≡◌, ℕ, ◌+◌, ◌-◌, ◌*◌, ◌^◌, ◌≤◌, ◌<◌, List, length, min, sym, ap, ◌∙◌, Option, Some, None, true, false, refl, arith}
use Rattle.std.specs.Option.{option_map, option_and_then}
use Rattle.std.proofs.lemmas.Bool.Decides.{nat_tests}
use Rattle.std.proofs.Math.Nat.{pow-le-pow_right, mul-le-mul}
use Rattle.cal_scan.specs.Numbers.{digits_value}
use Rattle.cal_scan.proofs.Values.{capped_through, one_below}
use Rattle.cal_job.specs.declared.number.TheConstants.{CAP}
use Rattle.cal_job.specs.Capped.{capped}
use Rattle.cal_job.specs.declared.form.NumberForm.{NumberForm}
use Rattle.cal_job.specs.Forms.{in_units, is_between, within}

-- a power of ten of at most nine zeros, and a capped value times it
pub power_small : (n : ℕ) → n ≤ 9 → 10 ^ n ≤ 10 ^ 9
power_small n le = pow-le-pow_right (omega arith) le

pub product_small : (value n v : ℕ) → n ≤ 9 → value ≡ min CAP v → value * 10 ^ n ≤ CAP * 10 ^ 9
product_small value n v le is = let small : value ≤ CAP = omega (arith, is) in mul-le-mul small (power_small n le)

-- The units of whole and of fraction, each value up to the cap, are up to the cap those of the number.
pub units_capped : (places : ℕ) (whole fraction : List ℕ) (w f result : ℕ) → w ≡ min CAP (digits_value whole) → f ≡ min CAP (digits_value fraction)
    → result ≡ min CAP (w * 10 ^ places + f * 10 ^ (places - length fraction)) → result ≡ capped (in_units places whole fraction)
unfolding capped
units_capped places whole fraction w f result w_is f_is is =
    let d : ℕ = digits_value whole in
    let e : ℕ = digits_value fraction in
    let p : ℕ = 10 ^ places in
    let q : ℕ = 10 ^ (places - length fraction) in
    let first : min CAP (w * p + f * q) ≡ min CAP (d * p + f * q) = ap (λ (n : ℕ). min CAP (n * p + f * q)) w_is ∙ capped_through CAP d p (f * q) (one_below places) in
    let turned : (n : ℕ) → d * p + n ≡ n + d * p = λ n. omega arith in
    let second : min CAP (f * q + d * p) ≡ min CAP (e * q + d * p) = ap (λ (n : ℕ). min CAP (n * q + d * p)) f_is ∙ capped_through CAP e q (d * p) (one_below (places - length fraction)) in
    is ∙ first ∙ ap (min CAP) (turned (f * q)) ∙ second ∙ ap (min CAP) (sym (turned (e * q)))

capped_below : (n : ℕ) → n ≤ CAP → capped n ≡ n
unfolding capped
capped_below n le = omega (arith, le)

pub uncapped : (m n : ℕ) → n ≡ capped m → n < CAP → m ≡ n
unfolding capped
uncapped m n e lt = omega (arith, e, lt)

-- ---- a number within its form's range

too_low : (least most n m : ℕ) → n ≡ capped m → most < CAP → n < least → is_between least most m ≡ false
unfolding capped
too_low least most n m is fits lt = grind (arith, nat_tests)

too_high : (least most n m : ℕ) → n ≡ capped m → most < n → is_between least most m ≡ false
unfolding capped
too_high least most n m is lt = grind (arith, nat_tests)

between : (least most n : ℕ) → least ≤ n → n ≤ most → is_between least most n ≡ true
between least most n low high = grind (arith, nat_tests)

pub none_low : (form : NumberForm) (o : Option ℕ) (n : ℕ) → Some n ≡ option_map capped o → form.most < CAP → n < form.least → option_and_then (within form) o ≡ None
none_low form None n e fits lt = refl
none_low form (Some m) n e fits lt = let same : n ≡ capped m = cc in rw (too_low form.least form.most n m same fits lt) refl

pub none_high : (form : NumberForm) (o : Option ℕ) (n : ℕ) → Some n ≡ option_map capped o → form.most < n → option_and_then (within form) o ≡ None
none_high form None n e lt = refl
none_high form (Some m) n e lt = let same : n ≡ capped m = cc in rw (too_high form.least form.most n m same lt) refl

pub some_within : (form : NumberForm) (o : Option ℕ) (n : ℕ) → Some n ≡ option_map capped o → form.most < CAP → form.least ≤ n → n ≤ form.most → option_and_then (within form) o ≡ Some n
some_within form None n e fits low high = absurd cc
some_within form (Some m) n e fits low high =
    let same : n ≡ capped m = cc in
    let is : m ≡ n = uncapped m n same (omega (arith, fits, high)) in
    rw (is, between form.least form.most n low high) refl
