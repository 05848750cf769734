-- Columns of weight 0 change their places without effect, and where a dear column keeps a weight, the potentials prove that there is no plan.
use Rattle.std.proofs.Common.{◌≡◌, ℕ, ◌<◌, ◌≢◌, refl, arith, ap, sym, ◌∙◌, subst, inl, inr}
use Rattle.std.specs.Prelude.{ℤ, pos, ◌*ℤ◌, ◌≤ℤ◌}
use Rattle.std.proofs.lemmas.Int.{ints}
use Rattle.std.proofs.lemmas.Bool.{cases_eq}
use Rattle.cal_math.specs.Vectors.{sum_to, dot}
use Rattle.cal_math.proofs.Products.{zero_times, least-*ℤ, least_from_product, times_zero, zero_from_product, one_from_product, one-le-*ℤ}
use Rattle.cal_math.proofs.Vectors.{sum-above, sum-same, dot_same, dot-scale, dot-combined}
use Rattle.lp_laws.proofs.Bases.{dot_basis}
use Rattle.lp_laws.proofs.Fraction.{Common, common, expanded}
use Rattle.lp_laws.proofs.Unique.{only_place}
use Rattle.lp_laws.specs.Bases.{IsBasis, IsPriced}

-- a row that kills all columns of a basis but the one at i kills what the row of i kills, and the other way round
pub stays_killed : (n m : ℕ) (columns rows : ℕ → ℕ → ℤ) (own : ℕ → ℤ) → IsBasis n m columns rows own → (u : ℕ → ℤ) (i : ℕ) → i < m → ((j : ℕ) → j < m → j ≢ i → dot n u (columns j) ≡ pos 0) → pos 1 ≤ℤ dot n u (columns i) →
    (x : ℕ → ℤ) → dot n u x ≡ pos 0 → dot n (rows i) x ≡ pos 0
stays_killed n m columns rows own basis u i lt kills some x zero_at =
    zero_from_product (dot n u (columns i)) (dot n (rows i) x) some (sym (only_place n m columns rows own basis u i lt kills x) ∙ ap (λ (z : ℤ). own i *ℤ z) zero_at ∙ times_zero (own i))

-- ---- weights stay, where the column that goes has the weight 0

stays_weighted : (n m i : ℕ) (columns rows : ℕ → ℕ → ℤ) (own : ℕ → ℤ) (columns' rows' : ℕ → ℕ → ℤ) (own' x : ℕ → ℤ) → IsBasis n m columns rows own → IsBasis n m columns' rows' own' →
    ((j : ℕ) → j < m → j ≢ i → (c : ℕ) → c < n → columns' j c ≡ columns j c) → dot n (rows i) x ≡ pos 0 → (all : Common m own) →
    (l : ℕ) → l < m → all.all *ℤ dot n (rows' l) x ≡ (all.parts l *ℤ dot n (rows l) x) *ℤ own' l
stays_weighted n m i columns rows own columns' rows' own' x basis basis' stays idle all l lt =
    sym (dot-scale n all.all (rows' l) x)
    ∙ dot_same n (rows' l) (λ c. all.all *ℤ x c) (rows' l) (λ c. sum_to m (λ j. factors j *ℤ columns' j c)) (λ c less. refl)
    (λ c less. expanded n m columns rows own all.all all.parts basis all.exact x c less ∙ sum-same m (λ j. factors j *ℤ columns j c) (λ j. factors j *ℤ columns' j c) (λ j q. same c less j q))
    ∙ dot_basis n m columns' rows' own' factors basis' l lt
  where
    factors : ℕ → ℤ
    factors j = all.parts j *ℤ dot n (rows j) x

    none : factors i ≡ pos 0
    none = ap (λ (z : ℤ). all.parts i *ℤ z) idle ∙ times_zero (all.parts i)

    same : (c : ℕ) → c < n → (j : ℕ) → j < m → factors j *ℤ columns j c ≡ factors j *ℤ columns' j c
    same c less j q =
        elim (cases_eq j i) [
          | inl e ↦
              let zero_at : factors j ≡ pos 0 = ap factors e ∙ none in
              ap (λ (z : ℤ). z *ℤ columns j c) zero_at ∙ zero_times (columns j c) ∙ sym (ap (λ (z : ℤ). z *ℤ columns' j c) zero_at ∙ zero_times (columns' j c))
          | inr ne ↦ ap (λ (z : ℤ). factors j *ℤ z) (sym (stays j q ne c less))
        ]

pub stays_least : (n m i : ℕ) (columns rows : ℕ → ℕ → ℤ) (own : ℕ → ℤ) (columns' rows' : ℕ → ℕ → ℤ) (own' x : ℕ → ℤ) → IsBasis n m columns rows own → IsBasis n m columns' rows' own' →
    ((j : ℕ) → j < m → j ≢ i → (c : ℕ) → c < n → columns' j c ≡ columns j c) → dot n (rows i) x ≡ pos 0 →
    (l : ℕ) → l < m → pos 0 ≤ℤ dot n (rows l) x → pos 0 ≤ℤ dot n (rows' l) x
stays_least n m i columns rows own columns' rows' own' x basis basis' stays idle l lt least =
    let all : Common m own = common m own basis.above in
    least_from_product all.all (dot n (rows' l) x) all.exact.positive
    (subst (λ (z : ℤ). pos 0 ≤ℤ z) (sym (stays_weighted n m i columns rows own columns' rows' own' x basis basis' stays idle all l lt))
    (least-*ℤ (all.parts l *ℤ dot n (rows l) x) (own' l) (least-*ℤ (all.parts l) (dot n (rows l) x) (omega (arith, ints, all.exact.parts_some l lt)) least) (omega (arith, ints, basis'.above l lt))))

pub stays_idle : (n m i : ℕ) (columns rows : ℕ → ℕ → ℤ) (own : ℕ → ℤ) (columns' rows' : ℕ → ℕ → ℤ) (own' x : ℕ → ℤ) → IsBasis n m columns rows own → IsBasis n m columns' rows' own' →
    ((j : ℕ) → j < m → j ≢ i → (c : ℕ) → c < n → columns' j c ≡ columns j c) → dot n (rows i) x ≡ pos 0 →
    (l : ℕ) → l < m → dot n (rows l) x ≡ pos 0 → dot n (rows' l) x ≡ pos 0
stays_idle n m i columns rows own columns' rows' own' x basis basis' stays idle l lt none =
    let all : Common m own = common m own basis.above in
    zero_from_product all.all (dot n (rows' l) x) all.exact.positive
    (stays_weighted n m i columns rows own columns' rows' own' x basis basis' stays idle all l lt
    ∙ ap (λ (z : ℤ). (all.parts l *ℤ z) *ℤ own' l) none ∙ ap (λ (z : ℤ). z *ℤ own' l) (times_zero (all.parts l)) ∙ zero_times (own' l))

-- ---- a proof of none

-- Costs are at least 0, and so are the weights. Where one column has a cost and a weight above 0, the target has a price above 0.
pub price_above : (n m : ℕ) (columns rows : ℕ → ℕ → ℤ) (own costs numbers x : ℕ → ℤ) (denominator : ℕ) → IsBasis n m columns rows own → IsPriced n m columns costs numbers denominator →
    ((j : ℕ) → j < m → pos 0 ≤ℤ costs j) → ((j : ℕ) → j < m → pos 0 ≤ℤ dot n (rows j) x) →
    (l : ℕ) → l < m → pos 1 ≤ℤ costs l → pos 1 ≤ℤ dot n (rows l) x → pos 1 ≤ℤ dot n numbers x
price_above n m columns rows own costs numbers x denominator basis priced cost_least least l lt cost_some some =
    one_from_product all.all (dot n numbers x) all.exact.positive
    (subst (λ (z : ℤ). pos 1 ≤ℤ z) (sym total) (sum-above m l (λ j. factors j *ℤ dot n numbers (columns j)) lt each one))
  where
    all : Common m own
    all = common m own basis.above

    factors : ℕ → ℤ
    factors j = all.parts j *ℤ dot n (rows j) x

    total : all.all *ℤ dot n numbers x ≡ sum_to m (λ j. factors j *ℤ dot n numbers (columns j))
    total =
        sym (dot-scale n all.all numbers x)
        ∙ dot_same n numbers (λ c. all.all *ℤ x c) numbers (λ c. sum_to m (λ j. factors j *ℤ columns j c)) (λ c less. refl) (λ c less. expanded n m columns rows own all.all all.parts basis all.exact x c less)
        ∙ dot-combined n m numbers factors columns

    each : (j : ℕ) → j < m → pos 0 ≤ℤ (factors j *ℤ dot n numbers (columns j))
    each j less =
        least-*ℤ (factors j) (dot n numbers (columns j)) (least-*ℤ (all.parts j) (dot n (rows j) x) (omega (arith, ints, all.exact.parts_some j less)) (least j less))
        (subst (λ (z : ℤ). pos 0 ≤ℤ z) (sym (priced.meets j less)) (least-*ℤ (pos denominator) (costs j) (omega (arith, ints)) (cost_least j less)))

    one : pos 1 ≤ℤ (factors l *ℤ dot n numbers (columns l))
    one =
        one-le-*ℤ (factors l) (dot n numbers (columns l)) (one-le-*ℤ (all.parts l) (dot n (rows l) x) (all.exact.parts_some l lt) some)
        (subst (λ (z : ℤ). pos 1 ≤ℤ z) (sym (priced.meets l lt)) (one-le-*ℤ (pos denominator) (costs l) (omega (arith, ints, priced.positive)) cost_some))
