-- The least number by which the weights become whole is at most w to the n.
use Rattle.std.proofs.Common.{◌≡◌, ℕ, ◌+◌, ◌-◌, ◌*◌, ◌^◌, ◌<◌, ◌≤◌, refl, arith, sym, subst, inl, inr}
use Rattle.std.specs.Prelude.{ℤ, pos, ◌-ℤ◌, ◌*ℤ◌, unsigned_abs}
use Rattle.std.proofs.lemmas.Int.{ints}
use Rattle.std.proofs.lemmas.Bool.{cases_lt}
use Rattle.cal_math.specs.Whole.{*ℤ-+ℤ, *ℤ--ℤ, *ℤ_comm}
use Rattle.cal_math.specs.Sums.{sum_below}
use Rattle.lp_laws.proofs.Mean.{product-le}
use Rattle.lp_laws.proofs.Pigeon.{product_of}
use Rattle.cal_math.specs.Vectors.{dot}
use Rattle.cal_math.proofs.Vectors.{sum-same, dot-scale, dot_same}
use Rattle.lp_laws.proofs.Fraction.{fraction, whole_part, dot-fraction, highs, highs_least}
use Rattle.lp_laws.proofs.Count.{count}
use Rattle.lp_laws.proofs.Bounds.{IsBox-from_sides, plain, sum_below-is}
use Rattle.lp_laws.proofs.Potentials.{highs_total}
use Rattle.lp_laws.specs.Bases.{IsBasis, IsPlain, IsWholeAt}

pub parts-le : (n w : ℕ) (columns rows : ℕ → ℕ → ℤ) (own target : ℕ → ℤ) (parts : ℕ) → IsBasis n n columns rows own → IsPlain n n w columns →
    ((h : ℕ) → 1 ≤ h → IsWholeAt n n rows own target h → parts ≤ h) → parts ≤ w ^ n
unfolding IsWholeAt
parts-le n w columns rows own target parts basis is least =
    omega (arith, bound, product-le n w lengths total)
  where
    lengths : ℕ → ℕ
    lengths c = unsigned_abs (highs n columns c)

    x : ℕ → ℕ → ℤ
    x h c = pos h *ℤ target c

    rest : ℕ → ℕ → ℤ
    rest h = fraction n n columns rows own (x h)

    total : sum_below n lengths ≤ n * w
    total = omega (arith, ints, sum_below-is n lengths, sum-same n (λ c. highs n columns c) (λ c. pos (lengths c)) (λ c less. omega (arith, ints, highs_least n columns c)), highs_total n n w columns is)

    whole : (h g : ℕ) → ((c : ℕ) → c < n → rest h c ≡ rest (h + g) c) → (j : ℕ) → j < n → (e : ℤ) × (pos g *ℤ dot n (rows j) target ≡ own j *ℤ e)
    whole h g same j lt =
        let a : ℤ = whole_part n rows own (x h) j in
        let b : ℤ = whole_part n rows own (x (h + g)) j in
        let v : ℤ = dot n (rows j) target in (
          b -ℤ a,
          omega (
            arith,
            ints,
            dot_same n (rows j) (rest h) (rows j) (rest (h + g)) (λ c less. refl) same,
            dot-fraction n n columns rows own basis (x h) j lt,
            dot-fraction n n columns rows own basis (x (h + g)) j lt,
            dot-scale n (pos h) (rows j) target,
            dot-scale n (pos (h + g)) (rows j) target,
            *ℤ_comm (pos (h + g)) v,
            *ℤ-+ℤ v (pos h) (pos g),
            *ℤ_comm v (pos h),
            *ℤ_comm v (pos g),
            *ℤ--ℤ (own j) b a,
          ),
        )

    apart_up : (h l : ℕ) → h < l → l < parts → ((c : ℕ) → c < n → rest h c ≡ rest l c) → ⊥
    apart_up h l p q same =
        let e : l ≡ h + (l - h) = omega arith in
        omega (arith, least (l - h) (omega arith) (whole h (l - h) (subst (λ (b : ℕ). (c : ℕ) → c < n → rest h c ≡ rest b c) e same)))

    apart : (h l : ℕ) → h < parts → l < parts → ((c : ℕ) → c < n → rest h c ≡ rest l c) → h ≡ l
    apart h l p q same = elim (cases_lt h l) [
      | inl lt ↦ absurd (apart_up h l lt q same)
      | inr le ↦ elim (cases_lt l h) [
        | inl lt ↦ absurd (apart_up l h lt p (λ c less. sym (same c less)))
        | inr other ↦ omega arith
      ]
    ]

    bound : parts ≤ product_of n lengths
    bound = count n n columns rows own basis n (λ c. c) (λ c. pos 0) lengths
        (IsBox-from_sides n n columns rows own basis n (λ c. c) (λ c. pos 0) lengths (λ c lt. lt) (λ c lt. plain (λ j less. is.least j c less lt) refl (omega (arith, ints, highs_least n columns c))))
        parts x apart
