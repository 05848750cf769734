-- A row that kills all columns of a basis but one is, up to a factor, the row of that place. So a basis has one list of primitive rows.
use Rattle.std.proofs.Common.{◌≡◌, ℕ, ◌<◌, ◌≢◌, refl, arith, ap, sym, ◌∙◌, subst, inl, inr}
use Rattle.std.specs.Prelude.{ℤ, pos, ◌-ℤ◌, ◌*ℤ◌, ◌≤ℤ◌}
use Rattle.std.proofs.lemmas.Int.{ints}
use Rattle.std.proofs.lemmas.Bool.{cases_eq}
use Rattle.cal_math.specs.Whole.{*ℤ_comm, *ℤ-≤}
use Rattle.cal_math.specs.Vectors.{sum_to, dot}
use Rattle.cal_math.proofs.Products.{times_zero, zero_from_product, one_from_product, same_from_product}
use Rattle.cal_math.proofs.Vectors.{sum-zero, dot_one, dot-scale, dot_same, dot_difference, dot-combined}
use Rattle.lp_laws.proofs.Primitive.{one_from_primitive}
use Rattle.lp_laws.proofs.Skip.{unit, unit_same, unit_other}
use Rattle.lp_laws.proofs.Fraction.{Common, common, expanded}
use Rattle.lp_laws.specs.Bases.{IsBasis, IsPrimitive}

-- a row that kills all columns of some basis kills all
pub kills_all : (n m : ℕ) (columns rows : ℕ → ℕ → ℤ) (own : ℕ → ℤ) → IsBasis n m columns rows own → (u : ℕ → ℤ) → ((j : ℕ) → j < m → dot n u (columns j) ≡ pos 0) → (x : ℕ → ℤ) → dot n u x ≡ pos 0
kills_all n m columns rows own basis u h x =
    let all : Common m own = common m own basis.above in
    let factors : ℕ → ℤ = λ j. all.parts j *ℤ dot n (rows j) x in
    zero_from_product all.all (dot n u x) all.exact.positive
    (sym (dot-scale n all.all u x)
    ∙ dot_same n u (λ c. all.all *ℤ x c) u (λ c. sum_to m (λ j. factors j *ℤ columns j c)) (λ c lt. refl) (λ c lt. expanded n m columns rows own all.all all.parts basis all.exact x c lt)
    ∙ dot-combined n m u factors columns
    ∙ sum-zero m (λ j. factors j *ℤ dot n u (columns j)) (λ j lt. ap (λ (z : ℤ). factors j *ℤ z) (h j lt) ∙ times_zero (factors j)))

-- the product with the unit column of component k
pub dot_unit : (n k : ℕ) (u : ℕ → ℤ) → k < n → dot n u (unit k) ≡ u k
dot_unit n k u lt = dot_one n k u (unit k) lt (λ c less ne. unit_other k c ne) ∙ ap (λ (z : ℤ). u k *ℤ z) (unit_same k) ∙ omega (arith, ints)

-- such a row is 0
pub zero_row : (n m : ℕ) (columns rows : ℕ → ℕ → ℤ) (own u : ℕ → ℤ) → IsBasis n m columns rows own → ((j : ℕ) → j < m → dot n u (columns j) ≡ pos 0) → (k : ℕ) → k < n → u k ≡ pos 0
zero_row n m columns rows own u basis h k lt = sym (dot_unit n k u lt) ∙ kills_all n m columns rows own basis u h (unit k)

-- a row that kills all columns but the one at i is, up to a factor, the row of i
pub only_place : (n m : ℕ) (columns rows : ℕ → ℕ → ℤ) (own : ℕ → ℤ) → IsBasis n m columns rows own → (u : ℕ → ℤ) (i : ℕ) → i < m → ((j : ℕ) → j < m → j ≢ i → dot n u (columns j) ≡ pos 0) →
    (x : ℕ → ℤ) → own i *ℤ dot n u x ≡ dot n u (columns i) *ℤ dot n (rows i) x
only_place n m columns rows own basis u i lt h x =
    let v : ℕ → ℤ = λ c. own i *ℤ u c -ℤ dot n u (columns i) *ℤ rows i c in
    let value : (y : ℕ → ℤ) → dot n v y ≡ own i *ℤ dot n u y -ℤ dot n u (columns i) *ℤ dot n (rows i) y = λ y. dot_difference n (own i) (dot n u (columns i)) u (rows i) v y (λ c less. refl) in
    let zeros : (j : ℕ) → j < m → dot n v (columns j) ≡ pos 0 = λ j less. elim (cases_eq j i) [
      | inl e ↦ subst (λ (k : ℕ). dot n v (columns k) ≡ pos 0) (sym e)
          (omega (arith, ints, value (columns i), ap (λ (z : ℤ). dot n u (columns i) *ℤ z) (basis.owns i lt), *ℤ_comm (own i) (dot n u (columns i))))
      | inr ne ↦ omega (arith, ints, value (columns j), ap (λ (z : ℤ). own i *ℤ z) (h j less ne), times_zero (own i), ap (λ (z : ℤ). dot n u (columns i) *ℤ z) (basis.kills i j lt less (λ e. ne (sym e))), times_zero (dot n u (columns i)))
    ] in
    omega (arith, ints, value x, kills_all n m columns rows own basis v zeros x)

-- ---- one list of primitive rows

multiple_le : (a b t : ℤ) → pos 1 ≤ℤ a → pos 1 ≤ℤ b → a *ℤ t ≡ b → a ≤ℤ b
multiple_le a b t h k e =
    let some : pos 1 ≤ℤ t = one_from_product a t h (subst (λ (z : ℤ). pos 1 ≤ℤ z) (sym e) k) in
    omega (arith, ints, e, *ℤ-≤ a (pos 1) t (omega (arith, ints)) some)

own_le : (n m : ℕ) (columns rows : ℕ → ℕ → ℤ) (own : ℕ → ℤ) (rows' : ℕ → ℕ → ℤ) (own' : ℕ → ℤ) → IsBasis n m columns rows own → IsBasis n m columns rows' own' →
    (i : ℕ) → i < m → IsPrimitive n (rows i) → own i ≤ℤ own' i
own_le n m columns rows own rows' own' basis basis' i lt primitive =
    let one = one_from_primitive n (rows i) primitive in
    multiple_le (own i) (own' i) (dot n (rows' i) one.0) (basis.above i lt) (basis'.above i lt)
    (only_place n m columns rows own basis (rows' i) i lt (λ j less ne. basis'.kills i j lt less (λ e. ne (sym e))) one.0
    ∙ ap (λ (z : ℤ). z *ℤ dot n (rows i) one.0) (basis'.owns i lt) ∙ ap (λ (z : ℤ). own' i *ℤ z) one.1 ∙ omega (arith, ints))

pub same_rows : (n m : ℕ) (columns rows : ℕ → ℕ → ℤ) (own : ℕ → ℤ) (rows' : ℕ → ℕ → ℤ) (own' : ℕ → ℤ) → IsBasis n m columns rows own → IsBasis n m columns rows' own' →
    (i : ℕ) → i < m → IsPrimitive n (rows i) → IsPrimitive n (rows' i) → (own' i ≡ own i) × ((c : ℕ) → c < n → rows' i c ≡ rows i c)
same_rows n m columns rows own rows' own' basis basis' i lt primitive primitive' = (same_own, λ c less. same_from_product (own i) (rows' i c) (rows i c) (basis.above i lt) (at_unit c less))
  where
    same_own : own' i ≡ own i
    same_own = omega (arith, ints, own_le n m columns rows own rows' own' basis basis' i lt primitive, own_le n m columns rows' own' rows own basis' basis i lt primitive')

    at_unit : (c : ℕ) → c < n → own i *ℤ rows' i c ≡ own i *ℤ rows i c
    at_unit c less =
        ap (λ (z : ℤ). own i *ℤ z) (sym (dot_unit n c (rows' i) less))
        ∙ only_place n m columns rows own basis (rows' i) i lt (λ j q ne. basis'.kills i j lt q (λ e. ne (sym e))) (unit c)
        ∙ ap (λ (z : ℤ). z *ℤ dot n (rows i) (unit c)) (basis'.owns i lt ∙ same_own)
        ∙ ap (λ (z : ℤ). own i *ℤ z) (dot_unit n c (rows i) less)
