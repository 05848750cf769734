-- A whole vector less the whole parts of its factors over a basis lies in a box.
use Rattle.std.proofs.Common.{◌≡◌, ℕ, zero, suc, ◌<◌, refl, arith, ap, sym, ◌∙◌, subst, inl, inr}
use Rattle.std.specs.Prelude.{ℤ, pos, negsuc, ◌+ℤ◌, ◌-ℤ◌, ◌*ℤ◌, ◌≤ℤ◌, ◌<ℤ◌}
use Rattle.std.specs.Prelude.{◌⊎◌}
use Rattle.std.specs.Int.{int_div_euclid}
use Rattle.std.proofs.lemmas.Int.{ints, by_lt_z}
use Rattle.std.proofs.lemmas.Bool.{cases_eq}
use borrow.Author.Differences.{up, down}
use Rattle.cal_math.specs.Whole.{*ℤ-+ℤ, *ℤ--ℤ, *ℤ_comm, *ℤ_assoc, *ℤ-≤, floor-le, lt-floor}
use Rattle.cal_math.specs.Vectors.{sum_to, dot}
use Rattle.cal_math.proofs.Products.{times_zero, one-le-*ℤ}
use Rattle.cal_math.proofs.Vectors.{sum-scale, sum-sub, sum-zero, sum-le, dot-sub, dot-scale}
use Rattle.lp_laws.proofs.Bases.{dot_basis}
use Rattle.lp_laws.specs.Bases.{IsBasis}

-- ---- a common multiple of the own products

pub record IsCommon (m : ℕ) (own : ℕ → ℤ) (all : ℤ) (parts : ℕ → ℤ) : Type 0 where
  pub positive : pos 1 ≤ℤ all
  pub parts_some : (j : ℕ) → j < m → pos 1 ≤ℤ parts j
  pub parts_are : (j : ℕ) → j < m → parts j *ℤ own j ≡ all

pub record Common (m : ℕ) (own : ℕ → ℤ) : Type 0 where
  pub all : ℤ
  pub parts : ℕ → ℤ
  pub exact : IsCommon m own all parts

more : (m : ℕ) (own : ℕ → ℤ) (all : ℤ) (parts : ℕ → ℤ) (j : ℕ) → (j ≡ m) ⊎ (j ≡ m → ⊥) → ℤ
more m own all parts j (inl e) = all
more m own all parts j (inr ne) = own m *ℤ parts j

more_some : (m : ℕ) (own : ℕ → ℤ) (all : ℤ) (parts : ℕ → ℤ) → IsCommon m own all parts → pos 1 ≤ℤ own m → (j : ℕ) → j < suc m → (t : (j ≡ m) ⊎ (j ≡ m → ⊥)) →
    pos 1 ≤ℤ more m own all parts j t
unfolding more
more_some m own all parts is some j lt (inl e) = is.positive
more_some m own all parts is some j lt (inr ne) = one-le-*ℤ (own m) (parts j) some (is.parts_some j (omega arith))

more_is : (m : ℕ) (own : ℕ → ℤ) (all : ℤ) (parts : ℕ → ℤ) → IsCommon m own all parts → (j : ℕ) → j < suc m → (t : (j ≡ m) ⊎ (j ≡ m → ⊥)) →
    more m own all parts j t *ℤ own j ≡ own m *ℤ all
unfolding more
more_is m own all parts is j lt (inl e) = ap (λ (k : ℕ). all *ℤ own k) e ∙ *ℤ_comm all (own m)
more_is m own all parts is j lt (inr ne) = *ℤ_assoc (own m) (parts j) (own j) ∙ ap (λ (z : ℤ). own m *ℤ z) (is.parts_are j (omega arith))

pub common : (m : ℕ) (own : ℕ → ℤ) → ((j : ℕ) → j < m → pos 1 ≤ℤ own j) → Common m own
common zero own h = record { all = pos 1; parts = λ j. pos 1; exact = record { positive = omega (arith, ints); parts_some = λ j lt. omega (arith, ints); parts_are = λ j lt. absurd (omega arith) } }
common (suc m) own h =
    let before : Common m own = common m own (λ j lt. h j (omega arith)) in
    let some : pos 1 ≤ℤ own m = h m (omega arith) in
    record {
      all = own m *ℤ before.all;
      parts = λ j. more m own before.all before.parts j (cases_eq j m);
      exact = record {
        positive = one-le-*ℤ (own m) before.all some before.exact.positive;
        parts_some = λ j lt. more_some m own before.all before.parts before.exact some j lt (cases_eq j m);
        parts_are = λ j lt. more_is m own before.all before.parts before.exact j lt (cases_eq j m);
      };
    }

-- ---- factors

-- a vector is the combination of the columns by its factors
pub expanded : (n m : ℕ) (columns rows : ℕ → ℕ → ℤ) (own : ℕ → ℤ) (all : ℤ) (parts : ℕ → ℤ) → IsBasis n m columns rows own → IsCommon m own all parts →
    (y : ℕ → ℤ) (c : ℕ) → c < n → all *ℤ y c ≡ sum_to m (λ j. (parts j *ℤ dot n (rows j) y) *ℤ columns j c)
expanded n m columns rows own all parts basis is y c lt =
    let factors : ℕ → ℤ = λ j. parts j *ℤ dot n (rows j) y in
    let zeros : (j : ℕ) → j < m → dot n (rows j) (λ c. all *ℤ y c -ℤ sum_to m (λ j. factors j *ℤ columns j c)) ≡ pos 0 = λ j less.
    dot-sub n (rows j) (λ c. all *ℤ y c) (λ c. sum_to m (λ j. factors j *ℤ columns j c))
    ∙ omega (
      arith,
      ints,
      dot-scale n all (rows j) y,
      dot_basis n m columns rows own factors basis j less,
      ap (λ (z : ℤ). z *ℤ dot n (rows j) y) (is.parts_are j less),
      *ℤ_assoc (parts j) (dot n (rows j) y) (own j),
      *ℤ_assoc (parts j) (own j) (dot n (rows j) y),
      ap (λ (z : ℤ). parts j *ℤ z) (*ℤ_comm (dot n (rows j) y) (own j)),
    ) in
    let zero_is : all *ℤ y c -ℤ sum_to m (λ j. factors j *ℤ columns j c) ≡ pos 0 = basis.complete (λ c. all *ℤ y c -ℤ sum_to m (λ j. factors j *ℤ columns j c)) zeros c lt in
    omega (arith, ints, zero_is)

-- all factors are at least 0 and below 1
unfoldable pub IsFraction : (n m : ℕ) (rows : ℕ → ℕ → ℤ) (own : ℕ → ℤ) (y : ℕ → ℤ) → Type 0
IsFraction n m rows own y = (j : ℕ) → j < m → (pos 0 ≤ℤ dot n (rows j) y) × ((dot n (rows j) y +ℤ pos 1) ≤ℤ own j)

-- the rest of a vector after the whole parts of its factors
unfoldable pub whole_part : ℕ → (ℕ → ℕ → ℤ) → (ℕ → ℤ) → (ℕ → ℤ) → ℕ → ℤ
whole_part n rows own x j = int_div_euclid (dot n (rows j) x) (own j)

unfoldable pub fraction : ℕ → ℕ → (ℕ → ℕ → ℤ) → (ℕ → ℕ → ℤ) → (ℕ → ℤ) → (ℕ → ℤ) → ℕ → ℤ
fraction n m columns rows own x c = x c -ℤ sum_to m (λ j. whole_part n rows own x j *ℤ columns j c)

pub dot-fraction : (n m : ℕ) (columns rows : ℕ → ℕ → ℤ) (own : ℕ → ℤ) → IsBasis n m columns rows own → (x : ℕ → ℤ) (j : ℕ) → j < m →
    dot n (rows j) (fraction n m columns rows own x) ≡ dot n (rows j) x -ℤ own j *ℤ whole_part n rows own x j
unfolding fraction
dot-fraction n m columns rows own basis x j lt =
    dot-sub n (rows j) x (λ c. sum_to m (λ j. whole_part n rows own x j *ℤ columns j c))
    ∙ ap (λ (z : ℤ). dot n (rows j) x -ℤ z) (dot_basis n m columns rows own (whole_part n rows own x) basis j lt ∙ *ℤ_comm (whole_part n rows own x j) (own j))

pub IsFraction-fraction : (n m : ℕ) (columns rows : ℕ → ℕ → ℤ) (own : ℕ → ℤ) → IsBasis n m columns rows own → (x : ℕ → ℤ) → IsFraction n m rows own (fraction n m columns rows own x)
unfolding IsFraction whole_part
IsFraction-fraction n m columns rows own basis x j lt = (
  omega (arith, ints, dot-fraction n m columns rows own basis x j lt, floor-le (dot n (rows j) x) (own j) (basis.above j lt)),
  omega (arith, ints, dot-fraction n m columns rows own basis x j lt, lt-floor (dot n (rows j) x) (own j) (basis.above j lt)),
)

-- ---- the box

-- the sums of the columns' magnitudes above and below 0 at a component
unfoldable pub highs : ℕ → (ℕ → ℕ → ℤ) → ℕ → ℤ
highs m columns c = sum_to m (λ j. pos (up (columns j c)))

unfoldable pub lows : ℕ → (ℕ → ℕ → ℤ) → ℕ → ℤ
lows m columns c = sum_to m (λ j. pos (down (columns j c)))

part_high : (t top b : ℤ) → pos 0 ≤ℤ t → t ≤ℤ top → (t *ℤ b) ≤ℤ (top *ℤ pos (up b))
part_high t top (pos b) h k = omega (arith, ints, *ℤ-≤ (pos b) t top (omega (arith, ints)) k)
part_high t top (negsuc b) h k = omega (arith, ints, *ℤ-≤ t (negsuc b) (pos 0) h (omega (arith, ints)))

part_low : (t top b : ℤ) → pos 0 ≤ℤ t → t ≤ℤ top → (pos 0 -ℤ top *ℤ pos (down b)) ≤ℤ (t *ℤ b)
part_low t top (pos b) h k = omega (arith, ints, *ℤ-≤ t (pos 0) (pos b) h (omega (arith, ints)))
part_low t top (negsuc b) h k = omega (arith, ints, *ℤ-≤ (pos (suc b)) t top (omega (arith, ints)) k)

factor_low : (q r : ℤ) → pos 1 ≤ℤ q → pos 0 ≤ℤ r → pos 0 ≤ℤ (q *ℤ r)
factor_low q r h k = omega (arith, ints, *ℤ-≤ q (pos 0) r (omega (arith, ints)) k)

factor_high : (q r own all : ℤ) → pos 1 ≤ℤ q → q *ℤ own ≡ all → (r +ℤ pos 1) ≤ℤ own → (q *ℤ r) ≤ℤ (all -ℤ pos 1)
factor_high q r own all h e k = omega (arith, ints, e, *ℤ-≤ q (r +ℤ pos 1) own (omega (arith, ints)) k, *ℤ-+ℤ q r (pos 1))

le_cancel : (a x b : ℤ) → pos 1 ≤ℤ a → (a *ℤ x) ≤ℤ ((a -ℤ pos 1) *ℤ b) → pos 0 ≤ℤ b → x ≤ℤ b
le_cancel a x b h k p =
    by_lt_z b x
    (λ lt. absurd (omega (arith, ints, k, *ℤ-≤ a (b +ℤ pos 1) x (omega (arith, ints)) (omega (arith, ints)), *ℤ-+ℤ a b (pos 1), *ℤ_comm (a -ℤ pos 1) b, *ℤ--ℤ b a (pos 1), *ℤ_comm b a)))
    (λ le. le)

lt_cancel : (a x b : ℤ) → pos 1 ≤ℤ a → (a *ℤ x) ≤ℤ ((a -ℤ pos 1) *ℤ b) → pos 1 ≤ℤ b → x <ℤ b
lt_cancel a x b h k p =
    by_lt_z x b
    (λ lt. lt)
    (λ le. absurd (omega (arith, ints, k, *ℤ-≤ a b x (omega (arith, ints)) le, *ℤ_comm (a -ℤ pos 1) b, *ℤ--ℤ b a (pos 1), *ℤ_comm b a)))

pub highs_least : (m : ℕ) (columns : ℕ → ℕ → ℤ) (c : ℕ) → pos 0 ≤ℤ highs m columns c
unfolding highs
highs_least zero columns c = omega (arith, ints)
highs_least (suc m) columns c = omega (arith, ints, highs_least m columns c)

pub lows_least : (m : ℕ) (columns : ℕ → ℕ → ℤ) (c : ℕ) → pos 0 ≤ℤ lows m columns c
unfolding lows
lows_least zero columns c = omega (arith, ints)
lows_least (suc m) columns c = omega (arith, ints, lows_least m columns c)

-- a common multiple less 1 times the sums bounds the vector's multiple
product_high : (n m : ℕ) (columns rows : ℕ → ℕ → ℤ) (own : ℕ → ℤ) → IsBasis n m columns rows own → (all : Common m own) → (y : ℕ → ℤ) → IsFraction n m rows own y →
    (c : ℕ) → c < n → (all.all *ℤ y c) ≤ℤ ((all.all -ℤ pos 1) *ℤ highs m columns c)
unfolding highs IsFraction
product_high n m columns rows own basis all y is c lt =
    let D : ℤ = all.all in
    let t : ℕ → ℤ = λ j. all.parts j *ℤ dot n (rows j) y in
    let each : (j : ℕ) → j < m → (t j *ℤ columns j c) ≤ℤ ((D -ℤ pos 1) *ℤ pos (up (columns j c))) = λ j less.
    part_high (t j) (D -ℤ pos 1) (columns j c) (factor_low (all.parts j) (dot n (rows j) y) (all.exact.parts_some j less) (is j less).0)
    (factor_high (all.parts j) (dot n (rows j) y) (own j) D (all.exact.parts_some j less) (all.exact.parts_are j less) (is j less).1) in
    omega (
      arith,
      ints,
      expanded n m columns rows own D all.parts basis all.exact y c lt,
      sum-le m (λ j. t j *ℤ columns j c) (λ j. (D -ℤ pos 1) *ℤ pos (up (columns j c))) each,
      sum-scale m (D -ℤ pos 1) (λ j. pos (up (columns j c))),
    )

product_low : (n m : ℕ) (columns rows : ℕ → ℕ → ℤ) (own : ℕ → ℤ) → IsBasis n m columns rows own → (all : Common m own) → (y : ℕ → ℤ) → IsFraction n m rows own y →
    (c : ℕ) → c < n → (all.all *ℤ (pos 0 -ℤ y c)) ≤ℤ ((all.all -ℤ pos 1) *ℤ lows m columns c)
unfolding lows IsFraction
product_low n m columns rows own basis all y is c lt =
    let D : ℤ = all.all in
    let t : ℕ → ℤ = λ j. all.parts j *ℤ dot n (rows j) y in
    let each : (j : ℕ) → j < m → (pos 0 -ℤ t j *ℤ columns j c) ≤ℤ ((D -ℤ pos 1) *ℤ pos (down (columns j c))) = λ j less.
    let low : (pos 0 -ℤ (D -ℤ pos 1) *ℤ pos (down (columns j c))) ≤ℤ (t j *ℤ columns j c) =
    part_low (t j) (D -ℤ pos 1) (columns j c) (factor_low (all.parts j) (dot n (rows j) y) (all.exact.parts_some j less) (is j less).0)
    (factor_high (all.parts j) (dot n (rows j) y) (own j) D (all.exact.parts_some j less) (all.exact.parts_are j less) (is j less).1) in
    omega (arith, ints, low) in
    omega (
      arith,
      ints,
      *ℤ--ℤ D (pos 0) (y c),
      expanded n m columns rows own D all.parts basis all.exact y c lt,
      sum-sub m (λ j. pos 0) (λ j. t j *ℤ columns j c),
      sum-zero m (λ j. pos 0) (λ j less. refl),
      sum-le m (λ j. pos 0 -ℤ t j *ℤ columns j c) (λ j. (D -ℤ pos 1) *ℤ pos (down (columns j c))) each,
      sum-scale m (D -ℤ pos 1) (λ j. pos (down (columns j c))),
    )

pub fraction_high : (n m : ℕ) (columns rows : ℕ → ℕ → ℤ) (own : ℕ → ℤ) → IsBasis n m columns rows own → (y : ℕ → ℤ) → IsFraction n m rows own y →
    (c : ℕ) → c < n → y c ≤ℤ highs m columns c
fraction_high n m columns rows own basis y is c lt =
    let all : Common m own = common m own basis.above in
    le_cancel all.all (y c) (highs m columns c) all.exact.positive (product_high n m columns rows own basis all y is c lt) (highs_least m columns c)

pub fraction_below : (n m : ℕ) (columns rows : ℕ → ℕ → ℤ) (own : ℕ → ℤ) → IsBasis n m columns rows own → (y : ℕ → ℤ) → IsFraction n m rows own y →
    (c : ℕ) → c < n → pos 1 ≤ℤ highs m columns c → y c <ℤ highs m columns c
fraction_below n m columns rows own basis y is c lt some =
    let all : Common m own = common m own basis.above in
    lt_cancel all.all (y c) (highs m columns c) all.exact.positive (product_high n m columns rows own basis all y is c lt) some

pub fraction_low : (n m : ℕ) (columns rows : ℕ → ℕ → ℤ) (own : ℕ → ℤ) → IsBasis n m columns rows own → (y : ℕ → ℤ) → IsFraction n m rows own y →
    (c : ℕ) → c < n → (pos 0 -ℤ lows m columns c) ≤ℤ y c
fraction_low n m columns rows own basis y is c lt =
    let all : Common m own = common m own basis.above in
    let low : (pos 0 -ℤ y c) ≤ℤ lows m columns c = le_cancel all.all (pos 0 -ℤ y c) (lows m columns c) all.exact.positive (product_low n m columns rows own basis all y is c lt) (lows_least m columns c) in
    omega (arith, ints, low)

-- ---- columns with no number below 0 at a component

pub lows_zero : (m : ℕ) (columns : ℕ → ℕ → ℤ) (c : ℕ) → ((j : ℕ) → j < m → pos 0 ≤ℤ columns j c) → lows m columns c ≡ pos 0
unfolding lows
lows_zero m columns c h = sum-zero m (λ j. pos (down (columns j c))) (λ j lt. omega (arith, ints, none (columns j c) (h j lt)))
  where
    none : (z : ℤ) → pos 0 ≤ℤ z → down z ≡ 0
    none (pos k) h = refl
    none (negsuc k) h = absurd (omega (arith, ints))

highs_zero : (m : ℕ) (columns : ℕ → ℕ → ℤ) (c : ℕ) → highs m columns c ≡ pos 0 → (j : ℕ) → j < m → pos 0 ≤ℤ columns j c → columns j c ≡ pos 0
unfolding highs
highs_zero zero columns c e j lt h = absurd (omega arith)
highs_zero (suc m) columns c e j lt h =
    elim (cases_eq j m) [
      | inl same ↦ subst (λ (k : ℕ). pos 0 ≤ℤ columns k c → columns k c ≡ pos 0) (sym same) (λ g. exact (columns m c) g (omega (arith, ints, highs_least m columns c))) h
      | inr other ↦ highs_zero m columns c (omega (arith, ints, highs_least m columns c)) j (omega arith) h
    ]
  where
    exact : (z : ℤ) → pos 0 ≤ℤ z → up z ≡ 0 → z ≡ pos 0
    exact (pos k) h e = omega (arith, ints)
    exact (negsuc k) h e = absurd (omega (arith, ints))

-- a component where all columns are 0 would be 0 in every vector
pub highs_some : (n m : ℕ) (columns rows : ℕ → ℕ → ℤ) (own : ℕ → ℤ) → IsBasis n m columns rows own →
    (c : ℕ) → c < n → ((j : ℕ) → j < m → pos 0 ≤ℤ columns j c) → pos 1 ≤ℤ highs m columns c
highs_some n m columns rows own basis c lt h =
    by_lt_z (pos 0) (highs m columns c) (λ above. omega (arith, ints, above))
    (λ le.
    let e : highs m columns c ≡ pos 0 = omega (arith, ints, highs_least m columns c) in
    let all : Common m own = common m own basis.above in
    let sum_is : all.all *ℤ pos 1 ≡ sum_to m (λ j. (all.parts j *ℤ dot n (rows j) (λ k. pos 1)) *ℤ columns j c) = expanded n m columns rows own all.all all.parts basis all.exact (λ k. pos 1) c lt in
    let zero_is : sum_to m (λ j. (all.parts j *ℤ dot n (rows j) (λ k. pos 1)) *ℤ columns j c) ≡ pos 0 =
    sum-zero m (λ j. (all.parts j *ℤ dot n (rows j) (λ k. pos 1)) *ℤ columns j c) (λ j less. ap (λ (z : ℤ). (all.parts j *ℤ dot n (rows j) (λ k. pos 1)) *ℤ z) (highs_zero m columns c e j less (h j less)) ∙ times_zero (all.parts j *ℤ dot n (rows j) (λ k. pos 1))) in
    absurd (omega (arith, ints, sum_is, zero_is, all.exact.positive)))
