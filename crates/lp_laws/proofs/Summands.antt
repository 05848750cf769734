-- Potentials that grow by the summand of one place.
use Rattle.std.proofs.Common.{◌≡◌, ℕ, ◌<◌, ◌≤◌, ◌≢◌, refl, arith, ap, sym, ◌∙◌, subst, inl, inr}
use Rattle.std.specs.Prelude.{ℤ, pos, ◌+ℤ◌, ◌-ℤ◌, ◌*ℤ◌, ◌≤ℤ◌}
use Rattle.std.proofs.lemmas.Int.{ints}
use Rattle.std.proofs.lemmas.Bool.{cases_eq}
use Rattle.cal_math.specs.Whole.{*ℤ_assoc, *ℤ_comm, *ℤ_left, *ℤ--ℤ}
use Rattle.cal_math.specs.Vectors.{dot}
use Rattle.cal_math.proofs.Products.{one-le-*ℤ, same_from_product}
use Rattle.cal_math.proofs.Vectors.{dot_scaled, dot_difference}
use Rattle.lp_laws.specs.Bases.{IsBasis, IsPriced}

-- prices of the costs of the places before k, and those with the cost of place k
pub IsPriced-more : (n m k : ℕ) (columns rows : ℕ → ℕ → ℤ) (own costs before after numbers numbers' : ℕ → ℤ) (denominator denominator' : ℕ) → IsBasis n m columns rows own → k < m →
    before k ≡ pos 0 → after k ≡ costs k → ((j : ℕ) → j < m → j ≢ k → after j ≡ before j) →
    IsPriced n m columns before numbers denominator → 1 ≤ denominator' →
    ((c : ℕ) → c < n → (pos denominator *ℤ own k) *ℤ numbers' c ≡ pos denominator' *ℤ (own k *ℤ numbers c +ℤ pos denominator *ℤ (costs k *ℤ rows k c))) →
    IsPriced n m columns after numbers' denominator'
IsPriced-more n m k columns rows own costs before after numbers numbers' denominator denominator' basis lt none here others priced some is = record {
  positive = some;
  meets = λ j less. same_from_product scale (dot n numbers' (columns j)) (pos denominator' *ℤ after j) scale_some (sym (scaled j) ∙ elim (cases_eq j k) [
    | inl e ↦ subst (λ (i : ℕ). pos denominator' *ℤ dot n mixed (columns i) ≡ scale *ℤ (pos denominator' *ℤ after i)) (sym e) at_k
    | inr ne ↦ at_other j less ne
  ]);
}
  where
    scale : ℤ
    scale = pos denominator *ℤ own k

    scale_some : pos 1 ≤ℤ scale
    scale_some = one-le-*ℤ (pos denominator) (own k) (omega (arith, ints, priced.positive)) (basis.above k lt)

    mixed : ℕ → ℤ
    mixed c = own k *ℤ numbers c -ℤ (pos 0 -ℤ pos denominator *ℤ costs k) *ℤ rows k c

    mixed_is : (c : ℕ) → c < n → scale *ℤ numbers' c ≡ pos denominator' *ℤ mixed c
    mixed_is c less = is c less ∙ ap (λ (z : ℤ). pos denominator' *ℤ z) (omega (arith, ints, *ℤ_comm (pos 0 -ℤ pos denominator *ℤ costs k) (rows k c), *ℤ--ℤ (rows k c) (pos 0) (pos denominator *ℤ costs k), *ℤ_comm (rows k c) (pos denominator *ℤ costs k), *ℤ_assoc (pos denominator) (costs k) (rows k c)))

    scaled : (j : ℕ) → pos denominator' *ℤ dot n mixed (columns j) ≡ scale *ℤ dot n numbers' (columns j)
    scaled j = sym (dot_scaled n (pos denominator') mixed (λ c. scale *ℤ numbers' c) (columns j) mixed_is) ∙ dot_scaled n scale numbers' (λ c. scale *ℤ numbers' c) (columns j) (λ c less. refl)

    parts_of : (j : ℕ) → dot n mixed (columns j) ≡ own k *ℤ dot n numbers (columns j) -ℤ (pos 0 -ℤ pos denominator *ℤ costs k) *ℤ dot n (rows k) (columns j)
    parts_of j = dot_difference n (own k) (pos 0 -ℤ pos denominator *ℤ costs k) numbers (rows k) mixed (columns j) (λ c less. refl)

    at_k : pos denominator' *ℤ dot n mixed (columns k) ≡ scale *ℤ (pos denominator' *ℤ after k)
    at_k =
        let value : dot n mixed (columns k) ≡ scale *ℤ after k =
        parts_of k
        ∙ omega (
          arith,
          ints,
          ap (λ (z : ℤ). own k *ℤ z) (priced.meets k lt ∙ ap (λ (z : ℤ). pos denominator *ℤ z) none),
          ap (λ (z : ℤ). (pos 0 -ℤ pos denominator *ℤ costs k) *ℤ z) (basis.owns k lt),
          *ℤ_comm (pos 0 -ℤ pos denominator *ℤ costs k) (own k),
          *ℤ--ℤ (own k) (pos 0) (pos denominator *ℤ costs k),
          *ℤ_left (own k) (pos denominator) (costs k),
          *ℤ_assoc (pos denominator) (own k) (costs k),
          ap (λ (z : ℤ). scale *ℤ z) here,
          ap (λ (z : ℤ). own k *ℤ z) (zero_right (pos denominator)),
        ) in
        ap (λ (z : ℤ). pos denominator' *ℤ z) value ∙ *ℤ_left (pos denominator') scale (after k)
      where
        zero_right : (a : ℤ) → a *ℤ pos 0 ≡ pos 0
        zero_right a = omega (arith, ints)

    at_other : (j : ℕ) → j < m → j ≢ k → pos denominator' *ℤ dot n mixed (columns j) ≡ scale *ℤ (pos denominator' *ℤ after j)
    at_other j less ne =
        let value : dot n mixed (columns j) ≡ scale *ℤ after j =
        parts_of j
        ∙ omega (
          arith,
          ints,
          ap (λ (z : ℤ). own k *ℤ z) (priced.meets j less),
          ap (λ (z : ℤ). (pos 0 -ℤ pos denominator *ℤ costs k) *ℤ z) (basis.kills k j lt less (λ e. ne (sym e))),
          *ℤ_left (own k) (pos denominator) (before j),
          *ℤ_assoc (pos denominator) (own k) (before j),
          ap (λ (z : ℤ). scale *ℤ z) (others j less ne),
        ) in
        ap (λ (z : ℤ). pos denominator' *ℤ z) value ∙ *ℤ_left (pos denominator') scale (after j)
