-- The digits that std writes for a number are those of its value.
use Rattle.std.proofs.Common.{◌≡◌, ℕ, suc, ◌+◌, ◌-◌, ◌*◌, ◌/◌, ◌%◌, ◌^◌, ◌≤◌, ◌<◌, true, List, [], ◌∷◌, ◌++◌, length, get_or, refl, sym, ap, ◌∙◌, append_assoc, arith}
use Rattle.std.specs.List.{list_all}
use Rattle.std.specs.Fmt.{decimal}
use Rattle.std.proofs.Math.Nat.{pow-suc, mul_assoc, le-mul_of_pos_right}
use Rattle.std.proofs.lemmas.Fmt.{decimal_step_wide, decimal_by_steps_wide}
use Rattle.std.proofs.lemmas.List.{append-nil, length-append}
use Rattle.std.proofs.lemmas.Bool.{and_parts, and_from, lt-ltb}
use Rattle.cal_scan.specs.Bytes.{is_digit}
use Rattle.cal_scan.specs.Numbers.{digits_value}
use Rattle.cal_scan.proofs.Values.{digit_range, tenfold, one_below}

-- ---- the digits of a number

push_value : (ds : List ℕ) (d : ℕ) → digits_value (ds ++ d ∷ []) ≡ digits_value ds * 10 + (d - 48)
unfolding digits_value
push_value [] d = omega arith
push_value (c ∷ ds) d =
    let e : ℕ = c - 48 in
    let long : length (ds ++ d ∷ []) ≡ suc (length ds) = omega (arith, length-append ds (d ∷ [])) in
    let power : 10 ^ length (ds ++ d ∷ []) ≡ 10 ^ length ds * 10 = ap (λ (n : ℕ). 10 ^ n) long ∙ pow-suc 10 (length ds) in
    let front : e * 10 ^ length (ds ++ d ∷ []) ≡ e * 10 ^ length ds * 10 = ap (λ (n : ℕ). e * n) power ∙ sym (mul_assoc e (10 ^ length ds) 10) in
    omega (arith, front, push_value ds d)

push_digits : (ds : List ℕ) (d : ℕ) → list_all is_digit ds ≡ true → is_digit d ≡ true → list_all is_digit (ds ++ d ∷ []) ≡ true
push_digits [] d all on = rw on refl
push_digits (c ∷ ds) d all on = let p = and_parts (is_digit c) (list_all is_digit ds) all in rw (p.0, push_digits ds d p.1 on) refl

-- digits of a value, of which the first is no zero unless the value is 0
pub record Writes (n : ℕ) (ds : List ℕ) : Type 0 where
  pub value : digits_value ds ≡ n
  pub digits : list_all is_digit ds ≡ true
  pub first : 0 < n → 48 < get_or ds 0 0
  pub present : 0 < length ds

is_digit-from : (n : ℕ) → n < 10 → is_digit (48 + n) ≡ true
is_digit-from n small = and_from _ _ (lt-ltb 47 (48 + n) (omega arith)) (lt-ltb (48 + n) 58 (omega arith))

writes_one : (n : ℕ) → n < 10 → Writes n ((48 + n) ∷ [])
unfolding digits_value
writes_one n small = record { value = omega arith; digits = rw (is_digit-from n small) refl; first = λ lt. omega arith; present = omega arith }

writes_more : (n : ℕ) (ds : List ℕ) → 10 ≤ n → Writes (n / 10) ds → Writes n (ds ++ (48 + n % 10) ∷ [])
writes_more n [] big w = absurd (omega (arith, w.present))
writes_more n (d ∷ ds) big w = record {
  value = omega (arith, push_value (d ∷ ds) (48 + n % 10), w.value);
  digits = push_digits (d ∷ ds) (48 + n % 10) w.digits (is_digit-from (n % 10) (omega arith));
  first = λ lt. w.first (omega arith);
  present = omega arith;
}

pub decimal-writes : (n : ℕ) → n < 10 ^ 64 → Writes n (decimal n)
decimal-writes n small = decimal_by_steps_wide Writes writes_one writes_more n small

-- ---- the number of some digits

step : (n d : ℕ) → 0 < n → d < 10 → n * 10 + d < 10 ^ 64 → decimal (n * 10 + d) ≡ decimal n ++ (48 + d) ∷ []
step n d some small fits =
    let q : (n * 10 + d) / 10 ≡ n = omega arith in
    let r : (n * 10 + d) % 10 ≡ d = omega arith in
    decimal_step_wide (n * 10 + d) (omega arith) fits ∙ rw (q, r) refl

-- digits behind those of a number
pub decimal_after : (n : ℕ) (ds : List ℕ) → 0 < n → list_all is_digit ds ≡ true → n * 10 ^ length ds + digits_value ds < 10 ^ 64 → decimal (n * 10 ^ length ds + digits_value ds) ≡ decimal n ++ ds
unfolding digits_value
decimal_after n [] some all small = let same : n * 1 + 0 ≡ n = omega arith in ap decimal same ∙ sym (append-nil (decimal n))
decimal_after n (d ∷ ds) some all small =
    let e : ℕ = d - 48 in
    let p : ℕ = 10 ^ length ds in
    let v : ℕ = digits_value ds in
    let both = and_parts (is_digit d) (list_all is_digit ds) all in
    let range = digit_range d both.0 in
    let moved : n * 10 ^ suc (length ds) + (e * p + v) ≡ (n * 10 + e) * p + v = omega (arith, ap (λ (k : ℕ). n * k) (pow-suc 10 (length ds)), tenfold n e p) in
    let within : n * 10 + e ≤ (n * 10 + e) * p = le-mul_of_pos_right {m = p} (n * 10 + e) (omega (arith, one_below (length ds))) in
    let fits : (n * 10 + e) * p + v < 10 ^ 64 = omega (arith, small, moved) in
    let digit : 48 + e ≡ d = omega (arith, range.0) in
    let one : decimal (n * 10 + e) ≡ decimal n ++ d ∷ [] = step n e some (omega (arith, range.1)) (omega (arith, within, fits)) ∙ ap (λ (k : ℕ). decimal n ++ k ∷ []) digit in
    ap decimal moved
    ∙ decimal_after (n * 10 + e) ds (omega (arith, some)) both.1 fits
    ∙ ap (λ (z : List ℕ). z ++ ds) one
    ∙ append_assoc (decimal n) (d ∷ []) ds
