-- the degree of a parameter, by the lengths of its lists
use Rattle.std.proofs.Common.{◌≡◌, ℕ, suc, ◌+◌, ◌^◌, ◌≤◌, ◌<◌, min, List, [], ◌∷◌, length, map, Bool, true, false, refl, ap, arith, lit<, ◌⊎◌, inl, inr}
use Rattle.std.specs.Prelude.{nat_lt, ◌==◌}
use Rattle.std.proofs.Math.Nat.{pow-le-pow_left}
use Rattle.std.proofs.lemmas.Bool.Decides.{nat_tests}
use Rattle.cef_core.specs.Phases.{factor_degree}
use Rattle.cef_core.proofs.Capped.{power-above}
use Rattle.cal_select.specs.Measures.{degree_by_lengths}

unequal : (a b : ℕ) → a < b → (b == a) ≡ false
unequal a b less = grind (arith, nat_tests)

pub by_lengths : (v : ℕ) (weighted : Bool) (lists : List (List ℕ)) → degree_by_lengths v weighted (map length lists) ≡ factor_degree v weighted lists
by_lengths v weighted [] = refl
by_lengths v weighted ([] ∷ []) = refl
by_lengths v weighted ((i ∷ []) ∷ []) = refl
by_lengths v weighted ((i ∷ j ∷ []) ∷ []) = refl
by_lengths v true ((i ∷ j ∷ k ∷ []) ∷ []) = refl
by_lengths v false ((i ∷ j ∷ k ∷ []) ∷ []) = refl
by_lengths v true ((i ∷ j ∷ k ∷ l ∷ more) ∷ []) =
    rw (unequal 2 (suc (suc (suc (suc (length more))))) (omega arith), unequal 3 (suc (suc (suc (suc (length more))))) (omega arith)) refl
by_lengths v false ((i ∷ j ∷ k ∷ l ∷ more) ∷ []) =
    rw (unequal 2 (suc (suc (suc (suc (length more))))) (omega arith), unequal 3 (suc (suc (suc (suc (length more))))) (omega arith)) refl
by_lengths v weighted ([] ∷ m ∷ more) = refl
by_lengths v weighted ((i ∷ []) ∷ m ∷ more) = refl
by_lengths v weighted ((i ∷ j ∷ []) ∷ m ∷ more) = refl
by_lengths v true ((i ∷ j ∷ k ∷ []) ∷ m ∷ more) = refl
by_lengths v false ((i ∷ j ∷ k ∷ []) ∷ m ∷ more) = refl
by_lengths v true ((i ∷ j ∷ k ∷ l ∷ rest) ∷ m ∷ more) = refl
by_lengths v false ((i ∷ j ∷ k ∷ l ∷ rest) ∷ m ∷ more) = refl

both_above : (n a b : ℕ) → 2 ^ 70 < n ^ 100 → 100 ≤ a → 100 ≤ b → nat_lt (2 ^ 70) (n ^ a) ≡ nat_lt (2 ^ 70) (n ^ b)
both_above n a b high le_a le_b = above (n ^ a) (n ^ b) (power-above n 100 a (2 ^ 70) (omega arith) high le_a) (power-above n 100 b (2 ^ 70) (omega arith) high le_b)
  where
    above : (x y : ℕ) → 2 ^ 70 < x → 2 ^ 70 < y → nat_lt (2 ^ 70) x ≡ nat_lt (2 ^ 70) y
    above x y h g = grind (arith, nat_tests)

small_or_great : (s : ℕ) → (min 100 s ≡ s) ⊎ ((min 100 s ≡ 100) × (100 ≤ s))
small_or_great s = grind arith

pub capped_power : (n s v : ℕ) → 10 ≤ n → nat_lt (2 ^ 70) (n ^ (min 100 s + v)) ≡ nat_lt (2 ^ 70) (n ^ (s + v))
capped_power n s v ten =
    let ten_power : 10 ^ 100 ≤ n ^ 100 = pow-le-pow_left {n = 10} {m = n} ten 100 in
    let above : 2 ^ 70 < 10 ^ 100 = lit< tt in
    elim (small_or_great s) [
      | inl same ↦ ap (λ (m : ℕ). nat_lt (2 ^ 70) (n ^ (m + v))) same
      | inr great ↦ both_above n (min 100 s + v) (s + v) (omega arith) (omega (arith, great.0)) (omega (arith, great.1))
    ]
