-- The whole ratios of a phase that is not too wide.
use Rattle.std.proofs.Common.{◌≡◌, ℕ, zero, suc, ◌+◌, ◌*◌, ◌/◌, ◌%◌, ◌^◌, ◌≤◌, ◌<◌, List, [], ◌∷◌, sum, Bool, true, false, cond, Option, Some, None, refl, arith, subst}
use Rattle.std.specs.Prelude.{◌==◌, ℤ, pos, negsuc, ◌<ℤ◌, unsigned_abs, is_some, if◌then◌else◌}
use Rattle.std.specs.List.{AllByRecursion, find, list_all, range_with_len}
use Rattle.std.specs.Option.{unwrap_or}
use Rattle.std.proofs.lemmas.Bool.Decides.{nat_tests}
use Rattle.std.proofs.lemmas.Int.{ints}
use Rattle.std.proofs.Math.Nat.{div-add-mod}
use Rattle.cal_dec.specs.Tens.{ten-pow-pos}
use Rattle.cal_dec.specs.declared.dec.Dec.{Dec}
use Rattle.tdb_read.specs.Sound.{IsRatio}
use Rattle.cal_select.specs.Wholes.{scaled, scaled_by, is_whole_at, decimals_of, whole_ratios}
use Rattle.cal_select.specs.Causes.{is_too_wide, is_wide_at}
use Rattle.cal_select.proofs.Everywhere.{left_true, right_true}

find_passes : (p : ℕ → Bool) (xs : List ℕ) (d : ℕ) → find p xs ≡ Some d → p d ≡ true
find_passes p [] d e = cc
find_passes p (x ∷ xs) d e = by_test (p x) refl e (find_passes p xs d)
  where
    by_test : (b : Bool) → p x ≡ b → cond b (Some x) (find p xs) ≡ Some d → (find p xs ≡ Some d → p d ≡ true) → p d ≡ true
    by_test true passes found rest = let same : x ≡ d = cc in subst (λ (n : ℕ). p n ≡ true) same passes
    by_test false passes found rest = rest found

find_within : (p : ℕ → Bool) (a n d : ℕ) → find p (range_with_len a n) ≡ Some d → d < a + n
find_within p a zero d e = cc
find_within p a (suc n) d e = by_test (p a) e (find_within p (a + 1) n d)
  where
    by_test : (b : Bool) → cond b (Some a) (find p (range_with_len (a + 1) n)) ≡ Some d → (find p (range_with_len (a + 1) n) ≡ Some d → d < a + 1 + n) → d < a + suc n
    by_test true found rest = let same : a ≡ d = cc in omega (arith, same)
    by_test false found rest = omega (arith, rest found)

-- ---- what is known of the ratios

pub record AreWhole (ratios : List Dec) : Type 0 where
  pub d : ℕ
  pub decimals_are : decimals_of ratios ≡ Some d
  pub few : d ≤ 5
  pub whole : list_all (is_whole_at d) ratios ≡ true
  pub narrow : sum (whole_ratios d ratios) ≤ 100000

decimals_within : (ratios : List Dec) (d : ℕ) → decimals_of ratios ≡ Some d → d < 6
unfolding decimals_of
decimals_within ratios d e = find_within (λ n. list_all (is_whole_at n) ratios) 0 6 d e

decimals_whole : (ratios : List Dec) (d : ℕ) → decimals_of ratios ≡ Some d → list_all (is_whole_at d) ratios ≡ true
unfolding decimals_of
decimals_whole ratios d e = find_passes (λ n. list_all (is_whole_at n) ratios) (range_with_len 0 6) d e

pub are_whole : (ratios : List Dec) → is_too_wide ratios ≡ false → AreWhole ratios
unfolding is_too_wide
are_whole ratios fits = by_option (decimals_of ratios) refl fits
  where
    by_option : (o : Option ℕ) → decimals_of ratios ≡ o → is_wide_at ratios o ≡ false → AreWhole ratios
    by_option None e fits = cc
    by_option (Some d) e fits = record {
      d = d;
      decimals_are = e;
      few = omega (arith, decimals_within ratios d e);
      whole = decimals_whole ratios d e;
      narrow = grind (arith, nat_tests);
    }

-- ---- each is at least 1

quotient_above : (a b n : ℕ) → 1 ≤ a → a % b ≡ 0 → a / b ≡ n → 1 ≤ n
quotient_above a b zero some rest same =
    let e : b * zero + a % b ≡ a = subst (λ (q : ℕ). b * q + a % b ≡ a) same (div-add-mod a b) in
    omega (arith, e, rest, some)
quotient_above a b (suc n) some rest same = omega arith

quotient_some : (a b n : ℕ) → 1 ≤ a → (if a % b == 0 then Some (a / b) else None) ≡ Some n → 1 ≤ n
quotient_some a b n some e = by_test (a % b == 0) refl e
  where
    by_test : (c : Bool) → (a % b == 0) ≡ c → cond c (Some (a / b)) None ≡ Some n → 1 ≤ n
    by_test true divides found =
        let same : a / b ≡ n = cc in
        let rest : a % b ≡ 0 = grind (arith, nat_tests) in
        quotient_above a b n some rest same
    by_test false divides found = cc

product_some : (m p : ℕ) → 1 ≤ m → 0 < p → 1 ≤ m * p
product_some zero p some above = omega (arith, some)
product_some (suc m) zero some above = omega (arith, above)
product_some (suc m) (suc p) some above = grind arith

scaled_by_some : (d m : ℕ) (e : ℤ) (n : ℕ) → 1 ≤ m → scaled_by d m e ≡ Some n → 1 ≤ n
scaled_by_some d m (pos e) n some is =
    let same : m * 10 ^ (d + e) ≡ n = cc in
    omega (arith, same, product_some m (10 ^ (d + e)) some (ten-pow-pos (d + e)))
scaled_by_some d m (negsuc e) n some is = quotient_some (m * 10 ^ d) (10 ^ suc e) n (product_some m (10 ^ d) some (ten-pow-pos d)) is

scaled_some : (d : ℕ) (x : Dec) (n : ℕ) → pos 0 <ℤ x.mantissa → scaled d x ≡ Some n → 1 ≤ n
unfolding scaled
scaled_some d x n above is = scaled_by_some d (unsigned_abs x.mantissa) x.exponent n (omega (arith, ints, above)) is

ratio_some : (d : ℕ) (x : Dec) → IsRatio x → is_whole_at d x ≡ true → 1 ≤ unwrap_or (scaled d x) 0
ratio_some d x is whole = by_option (scaled d x) refl whole
  where
    by_option : (o : Option ℕ) → scaled d x ≡ o → is_some o ≡ true → 1 ≤ unwrap_or o 0
    by_option None e whole = cc
    by_option (Some n) e whole = scaled_some d x n is.above_zero e

pub ratios_some : (d : ℕ) (ratios : List Dec) → AllByRecursion IsRatio ratios → list_all (is_whole_at d) ratios ≡ true → AllByRecursion (λ a. 1 ≤ a) (whole_ratios d ratios)
ratios_some d [] all whole = tt
ratios_some d (x ∷ ratios) all whole = (
  ratio_some d x all.0 (left_true (is_whole_at d x) (list_all (is_whole_at d) ratios) whole),
  ratios_some d ratios all.1 (right_true (is_whole_at d x) (list_all (is_whole_at d) ratios) whole),
)
