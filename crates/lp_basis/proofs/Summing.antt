-- A summand more over a common denominator, which is made least.
use Rattle.std.proofs.Common.{◌≡◌, ℕ, zero, suc, ◌+◌, ◌*◌, ◌/◌, ◌^◌, ◌<◌, ◌≤◌, List, length, get_or, refl, arith, ap, sym, ◌∙◌, subst}
use Rattle.std.specs.Prelude.{ℤ, pos, ◌+ℤ◌, ◌-ℤ◌, ◌*ℤ◌, unsigned_abs}
use Rattle.std.specs.Int.{◌∣◌}
use Rattle.std.proofs.lemmas.Int.{ints}
use Rattle.std.proofs.Common.{inl, inr}
use Rattle.std.proofs.lemmas.Int.{unsigned_abs-mul}
use Rattle.std.proofs.lemmas.Bool.{cases_eq, cases_lt}
use Rattle.std.proofs.lemmas.List.{get_or_default}
use Rattle.std.proofs.lemmas.Nat.{div-add-mod', mul-le}
use Rattle.std.proofs.lemmas.Nat.Gcd.{le_of_dvd, mod-eq-zero_of_dvd}
use Rattle.std.proofs.Math.Nat.{dvd-mul_right, mul-le-mul_right}
use Rattle.lp_laws.specs.Bases.{IsReduced}
use Rattle.cal_math.specs.Vectors.{at}
use Rattle.lp_basis.specs.Potentials.{IsPart, AreParts, IsDivisor, AreSmall, number_at, IsSummed, FitsSum}
use Rattle.lp_basis.specs.declared.potential.Part.{Part}
use Rattle.cal_math.specs.Whole.{*ℤ-+ℤ, *ℤ--ℤ, *ℤ_comm, *ℤ_assoc, *ℤ_left}

pub part_is : (number summand f g : ℤ) (large own r l carry rest : ℕ) → pos r ≡ number -ℤ pos large *ℤ f → pos l ≡ summand -ℤ pos own *ℤ g → carry * (large * own) + rest ≡ r * own + l * large →
    ((f +ℤ g) +ℤ pos carry) *ℤ pos (large * own) +ℤ pos rest ≡ pos own *ℤ number +ℤ pos large *ℤ summand
part_is number summand f g large own r l carry rest r_is l_is sum =
    let L : ℤ = pos (large * own) in
    let L_is : L ≡ pos own *ℤ pos large = omega (arith, ints) in
    let L_is2 : L ≡ pos large *ℤ pos own = omega (arith, ints) in
    let first : L *ℤ f ≡ pos own *ℤ (pos large *ℤ f) = ap (λ (z : ℤ). z *ℤ f) L_is ∙ *ℤ_assoc (pos own) (pos large) f in
    let second : L *ℤ g ≡ pos large *ℤ (pos own *ℤ g) = ap (λ (z : ℤ). z *ℤ g) L_is2 ∙ *ℤ_assoc (pos large) (pos own) g in
    let third : L *ℤ pos carry ≡ pos (carry * (large * own)) = omega (arith, ints) in
    let n_is : number ≡ pos large *ℤ f +ℤ pos r = omega (arith, ints, r_is) in
    let s_is : summand ≡ pos own *ℤ g +ℤ pos l = omega (arith, ints, l_is) in
    let number_is : pos own *ℤ number ≡ pos own *ℤ (pos large *ℤ f) +ℤ pos (r * own) = ap (λ (z : ℤ). pos own *ℤ z) n_is ∙ *ℤ-+ℤ (pos own) (pos large *ℤ f) (pos r) ∙ omega (arith, ints) in
    let summand_is : pos large *ℤ summand ≡ pos large *ℤ (pos own *ℤ g) +ℤ pos (l * large) = ap (λ (z : ℤ). pos large *ℤ z) s_is ∙ *ℤ-+ℤ (pos large) (pos own *ℤ g) (pos l) ∙ omega (arith, ints) in
    omega (arith, ints, *ℤ_comm ((f +ℤ g) +ℤ pos carry) L, *ℤ-+ℤ L (f +ℤ g) (pos carry), *ℤ-+ℤ L f g, first, second, third, number_is, summand_is, sum)

pub IsPart-from : (number summand f g w : ℤ) (large own r l carry rest : ℕ) → pos r ≡ number -ℤ pos large *ℤ f → pos l ≡ summand -ℤ pos own *ℤ g → carry * (large * own) + rest ≡ r * own + l * large →
    w ≡ (f +ℤ g) +ℤ pos carry → rest < large * own → IsPart number large summand own (record { whole = w; rest = rest })
IsPart-from number summand f g w large own r l carry rest r_is l_is sum w_is below = record {
  exact = ap (λ (z : ℤ). z *ℤ pos (large * own) +ℤ pos rest) w_is ∙ part_is number summand f g large own r l carry rest r_is l_is sum;
  below = below;
}

-- ---- the least denominator

-- the exact quotients of a denominator and of the rests by their greatest common divisor
whole_times : (a g : ℕ) → g ∣ a → a ≡ a / g * g
whole_times a g h = omega (arith, div-add-mod' a g, mod-eq-zero_of_dvd g h)

pub some_divisor : (a g : ℕ) → 1 ≤ a → g ∣ a → 1 ≤ g
some_divisor a g some h = elim (cases_eq g 0) [
  | inl e ↦ absurd (omega (arith, some, whole_times a g h, ap (λ (k : ℕ). a / g * k) e))
  | inr ne ↦ omega arith
]

some_quotient : (a g : ℕ) → 1 ≤ a → g ∣ a → 1 ≤ a / g
some_quotient a g some h = elim (cases_eq (a / g) 0) [
  | inl e ↦ absurd (omega (arith, some, whole_times a g h, ap (λ (k : ℕ). k * g) e))
  | inr ne ↦ omega arith
]

pub rest_below : (rest all g : ℕ) → 1 ≤ g → g ∣ all → g ∣ rest → rest < all → rest / g < all / g
rest_below rest all g some h k lt = elim (cases_lt (rest / g) (all / g)) [
  | inl less ↦ less
  | inr le ↦ absurd (omega (arith, whole_times all g h, whole_times rest g k, lt, mul-le-mul_right g le))
]

-- the number times the divisor
scaled : (whole : ℤ) (rest all g : ℕ) → g ∣ all → g ∣ rest → pos g *ℤ (whole *ℤ pos (all / g) +ℤ pos (rest / g)) ≡ whole *ℤ pos all +ℤ pos rest
scaled whole rest all g h k =
    let all_is : pos g *ℤ pos (all / g) ≡ pos all = omega (arith, ints, whole_times all g h) in
    let rest_is : pos g *ℤ pos (rest / g) ≡ pos rest = omega (arith, ints, whole_times rest g k) in
    omega (arith, ints, *ℤ-+ℤ (pos g) (whole *ℤ pos (all / g)) (pos (rest / g)), *ℤ_left (pos g) whole (pos (all / g)), ap (λ (z : ℤ). whole *ℤ z) all_is, rest_is)

sum_is : (number whole cost row : ℤ) (large own rest g : ℕ) → g ∣ large * own → g ∣ rest → whole *ℤ pos (large * own) +ℤ pos rest ≡ pos own *ℤ number +ℤ pos large *ℤ (cost *ℤ row) →
    (pos large *ℤ pos own) *ℤ (whole *ℤ pos (large * own / g) +ℤ pos (rest / g)) ≡ pos (large * own / g) *ℤ (pos own *ℤ number +ℤ pos large *ℤ (cost *ℤ row))
sum_is number whole cost row large own rest g h k is =
    let v : ℤ = whole *ℤ pos (large * own / g) +ℤ pos (rest / g) in
    let all_is : pos large *ℤ pos own ≡ pos (large * own / g) *ℤ pos g = omega (arith, ints, whole_times (large * own) g h) in
    ap (λ (z : ℤ). z *ℤ v) all_is ∙ *ℤ_assoc (pos (large * own / g)) (pos g) v ∙ ap (λ (z : ℤ). pos (large * own / g) *ℤ z) (scaled whole rest (large * own) g h k ∙ is)

-- what divides the denominator and a number divides the rest
rest_divided : (h q d : ℕ) (whole s t : ℤ) → pos h *ℤ s ≡ pos d → pos h *ℤ t ≡ whole *ℤ pos d +ℤ pos q → q ≡ h * unsigned_abs (t -ℤ whole *ℤ s)
rest_divided h q d whole s t d_is n_is =
    let q_is : pos q ≡ pos h *ℤ (t -ℤ whole *ℤ s) = omega (arith, ints, *ℤ--ℤ (pos h) t (whole *ℤ s), *ℤ_left (pos h) whole s, ap (λ (z : ℤ). whole *ℤ z) d_is, n_is) in
    ap unsigned_abs q_is ∙ unsigned_abs-mul (pos h) (t -ℤ whole *ℤ s)

multiple : (g h k a : ℕ) → a ≡ h * k * g → g * h ∣ a
multiple g h k a e = subst (λ (v : ℕ). g * h ∣ v) (omega (arith, e)) (dvd-mul_right (g * h) k)

pub IsSummed-from : (n : ℕ) (numbers row : List ℤ) (large own : ℕ) (cost : ℤ) (parts : List Part) (divisor : ℕ) (f : ℕ → ℤ) → 1 ≤ large → 1 ≤ own → AreParts n numbers large cost row own parts →
    IsDivisor parts (large * own) n divisor → ((c : ℕ) (d : Part) → c < n → f c ≡ number_at (get_or parts c d) (large * own / divisor) divisor) → IsSummed n (at numbers) large cost (at row) (pos own) f (large * own / divisor)
unfolding IsReduced
IsSummed-from n numbers row large own cost parts divisor f large_some own_some are is f_is =
    let zero : Part = record { whole = pos 0; rest = 0 } in
    let all_some : 1 ≤ large * own = omega (arith, mul-le 1 1 large own large_some own_some) in
    record {
      positive = some_quotient (large * own) divisor all_some is.divides_all;
      exact = λ c lt. ap (λ (z : ℤ). (pos large *ℤ pos own) *ℤ z) (f_is c zero lt) ∙ sum_is (at numbers c) (get_or parts c zero).whole cost (at row c) large own (get_or parts c zero).rest divisor is.divides_all (is.divides c zero lt) (are c zero lt).exact;
      reduced = λ h first each.
          let d : ℕ = large * own / divisor in
          let d_is : d ≡ h * unsigned_abs first.0 = ap unsigned_abs (sym first.1) ∙ unsigned_abs-mul (pos h) first.0 in
          let some : 1 ≤ divisor = some_divisor (large * own) divisor all_some is.divides_all in
          let whole : divisor * h ∣ divisor = is.greatest (divisor * h)
          (multiple divisor h (unsigned_abs first.0) (large * own) (whole_times (large * own) divisor is.divides_all ∙ ap (λ (k : ℕ). k * divisor) d_is))
          (λ c e lt. multiple divisor h (unsigned_abs ((each c lt).0 -ℤ (get_or parts c e).whole *ℤ first.0)) (get_or parts c e).rest
          (whole_times (get_or parts c e).rest divisor (is.divides c e lt) ∙ ap (λ (k : ℕ). k * divisor) (rest_divided h ((get_or parts c e).rest / divisor) d (get_or parts c e).whole first.0 (each c lt).0 first.1 ((each c lt).1 ∙ f_is c e lt)))) in
          only_one divisor h (unsigned_abs first.0) d some (some_quotient (large * own) divisor all_some is.divides_all) d_is (le_of_dvd some whole);
    }
  where
    only_one : (g h k d : ℕ) → 1 ≤ g → 1 ≤ d → d ≡ h * k → g * h ≤ g → h ≡ 1
    only_one g zero k d p q e le = absurd (omega (arith, q, e))
    only_one g (suc zero) k d p q e le = refl
    only_one g (suc (suc h)) k d p q e le = absurd (omega (arith, p, le))

-- what goes in and what comes out is small
abbrev pub SmallSum : List Part → ℕ → ℕ → Type 0
SmallSum parts denominator divisor = (1 ≤ divisor) × (denominator ≤ 2 ^ 62) × AreSmall parts denominator divisor

pub small_sum : (numbers row : List ℤ) (large own : ℕ) (cost : ℤ) (parts : List Part) (divisor : ℕ) → FitsSum numbers large cost row (pos own) → length parts ≡ length numbers → AreParts (length numbers) numbers large cost row own parts →
    IsDivisor parts (large * own) (length parts) divisor → SmallSum parts (large * own / divisor) divisor
small_sum numbers row large own cost parts divisor fits same are is =
    let zero : Part = record { whole = pos 0; rest = 0 } in
    let own_some : 1 ≤ own = omega (arith, ints, fits.own_some) in
    let all_some : 1 ≤ large * own = omega (arith, mul-le 1 1 large own fits.d_some own_some) in
    let some : 1 ≤ divisor = some_divisor (large * own) divisor all_some is.divides_all in
    let f : ℕ → ℤ = λ c. number_at (get_or parts c zero) (large * own / divisor) divisor in
    let summed : IsSummed (length numbers) (at numbers) large cost (at row) (pos own) f (large * own / divisor) =
    IsSummed-from (length numbers) numbers row large own cost parts divisor f fits.d_some own_some are (subst (λ (n : ℕ). IsDivisor parts (large * own) n divisor) same is)
    (λ c d lt. ap (λ (part : Part). number_at part (large * own / divisor) divisor) (get_or_default parts c zero d (omega (arith, same)))) in
    let small = fits.sum_small f (large * own / divisor) summed in (
      some,
      small.0,
      λ c d lt. (
        rest_below (get_or parts c d).rest (large * own) divisor some is.divides_all (is.divides c d lt) (are c d (omega (arith, same))).below,
        subst (λ (part : Part). unsigned_abs (number_at part (large * own / divisor) divisor) ≤ 2 ^ 100) (get_or_default parts c zero d lt) (small.1 c (omega (arith, same))),
      ),
    )
