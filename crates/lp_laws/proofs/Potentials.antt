-- The bounds of parts, of the potentials and of their denominator: the costs are one more component.
use Rattle.std.proofs.Common.{◌≡◌, ℕ, zero, suc, ◌+◌, ◌*◌, ◌^◌, ◌<◌, ◌≤◌, ◌≢◌, refl, arith, ap, sym, ◌∙◌, subst, inl, inr}
use Rattle.std.specs.Prelude.{ℤ, pos, negsuc, ◌+ℤ◌, ◌-ℤ◌, ◌*ℤ◌, ◌≤ℤ◌, unsigned_abs}
use Rattle.std.proofs.lemmas.Int.{ints}
use Rattle.std.proofs.lemmas.Bool.{cases_eq, cases_lt}
use Rattle.std.proofs.lemmas.Nat.{mul-le, mul-pow}
use Rattle.std.proofs.Math.Nat.{mul-le-mul_left, le_of_mul-le-mul_left, pow-le-pow_left, one-le-pow, pow-zero}
use borrow.Author.Differences.{up, down}
use Rattle.lp_laws.proofs.Pigeon.{product_of}
use Rattle.cal_math.specs.Sums.{sum_below}
use Rattle.lp_laws.proofs.Mean.{product-le, power_mean}
use Rattle.cal_math.specs.Vectors.{sum_to, dot}
use Rattle.cal_math.proofs.Products.{zero_from_product}
use Rattle.cal_math.proofs.Vectors.{sum-same, sum-zero, sum-le, sum-add, sum-swap, dot_one, dot-scale, dot_same, dot_scaled}
use Rattle.lp_laws.proofs.Skip.{skip, skip_below, skip_before, skip_after, skip_apart, sum_skip, put, put_same, put_other, unit, unit_same, unit_other}
use Rattle.lp_laws.proofs.Fraction.{highs, highs_least, lows}
use Rattle.lp_laws.proofs.Bounds.{number-le_product, IsSide, plain, signed, sum_below-is, sum_times, up_plain}
use Rattle.lp_laws.specs.Bases.{IsBasis, IsPlain, IsPriced}

*ℤ-zero : (a : ℤ) → a *ℤ pos 0 ≡ pos 0
*ℤ-zero a = omega (arith, ints)

-- ---- the costs as one more component, n, and its unit column as one more column, m

pub wide_columns : (n m : ℕ) (columns : ℕ → ℕ → ℤ) (costs : ℕ → ℤ) → ℕ → ℕ → ℤ
wide_columns n m columns costs = put m (unit n) (λ j. put n (costs j) (columns j))

pub wide_rows : (n m : ℕ) (rows : ℕ → ℕ → ℤ) (numbers : ℕ → ℤ) (denominator : ℕ) → ℕ → ℕ → ℤ
wide_rows n m rows numbers denominator = put m (put n (pos denominator) (λ c. negsuc 0 *ℤ numbers c)) (λ j. put n (pos 0) (rows j))

pub wide_own : (m : ℕ) (own : ℕ → ℤ) (denominator : ℕ) → ℕ → ℤ
wide_own m own denominator = put m (pos denominator) own

-- a product of wide vectors
dot_wide : (n : ℕ) (r x : ℕ → ℤ) (a b : ℤ) → dot (suc n) (put n a r) (put n b x) ≡ dot n r x +ℤ a *ℤ b
unfolding dot
dot_wide n r x a b =
    rw (put_same n a r, put_same n b x)
    (ap (λ (v : ℤ). v +ℤ a *ℤ b) (sum-same n (λ c. put n a r c *ℤ put n b x c) (λ c. r c *ℤ x c)
    (λ c lt. ap (λ (v : ℤ). v *ℤ put n b x c) (put_other n a r c (λ e. omega arith)) ∙ ap (λ (v : ℤ). r c *ℤ v) (put_other n b x c (λ e. omega arith)))))

dot_wide_any : (n : ℕ) (r x : ℕ → ℤ) (a : ℤ) → dot (suc n) (put n a r) x ≡ dot n r x +ℤ a *ℤ x n
unfolding dot
dot_wide_any n r x a =
    rw (put_same n a r)
    (ap (λ (v : ℤ). v +ℤ a *ℤ x n) (sum-same n (λ c. put n a r c *ℤ x c) (λ c. r c *ℤ x c)
    (λ c lt. ap (λ (v : ℤ). v *ℤ x c) (put_other n a r c (λ e. omega arith)))))

dot_unit : (n : ℕ) (r : ℕ → ℤ) → dot (suc n) r (unit n) ≡ r n
dot_unit n r = dot_one (suc n) n r (unit n) (omega arith) (λ c lt ne. unit_other n c ne) ∙ ap (λ (v : ℤ). r n *ℤ v) (unit_same n) ∙ omega (arith, ints)

pub IsBasis-wide : (n m : ℕ) (columns rows : ℕ → ℕ → ℤ) (own costs numbers : ℕ → ℤ) (denominator : ℕ) → IsBasis n m columns rows own → IsPriced n m columns costs numbers denominator →
    IsBasis (suc n) (suc m) (wide_columns n m columns costs) (wide_rows n m rows numbers denominator) (wide_own m own denominator)
unfolding wide_columns wide_rows wide_own
IsBasis-wide n m columns rows own costs numbers denominator basis priced = record {
  owns = λ j lt. elim (cases_eq j m) [
    | inl e ↦ subst (λ (k : ℕ). dot (suc n) (R k) (B k) ≡ O k) (sym e) (last_is (unit n) ∙ last_unit ∙ sym (put_same m (pos denominator) own))
    | inr ne ↦ front j j ne ne ∙ basis.owns j (omega arith) ∙ sym (put_other m (pos denominator) own j ne)
  ];
  kills = λ i j p q ne. elim (cases_eq i m) [
    | inl e ↦ subst (λ (k : ℕ). dot (suc n) (R k) (B j) ≡ pos 0) (sym e) (last_kills j (omega arith) (λ f. ne (e ∙ sym f)))
    | inr other ↦ elim (cases_eq j m) [
      | inl e ↦ subst (λ (k : ℕ). dot (suc n) (R i) (B k) ≡ pos 0) (sym e) (front_kills i other)
      | inr far ↦ front i j other far ∙ basis.kills i j (omega arith) (omega arith) ne
    ]
  ];
  above = λ j lt. elim (cases_eq j m) [
    | inl e ↦ subst (λ (k : ℕ). pos 1 ≤ℤ O k) (sym e) (rw (put_same m (pos denominator) own) (omega (arith, ints, priced.positive)))
    | inr ne ↦ rw (put_other m (pos denominator) own j ne) (basis.above j (omega arith))
  ];
  complete = λ x zeros c lt.
      let inner : (c : ℕ) → c < n → x c ≡ pos 0 = basis.complete x (λ j less.
      let z : dot n (rows j) x +ℤ pos 0 *ℤ x n ≡ pos 0 = sym (dot_wide_any n (rows j) x (pos 0)) ∙ ap (λ (f : ℕ → ℤ). dot (suc n) f x) (sym (put_other m W (λ j. put n (pos 0) (rows j)) j (λ e. omega arith))) ∙ zeros j (omega arith) in
      omega (arith, ints, z)) in
      elim (cases_eq c n) [
        | inl e ↦ subst (λ (k : ℕ). x k ≡ pos 0) (sym e) (zero_from_product (pos denominator) (x n) (omega (arith, ints, priced.positive))
            (let z : dot n (λ c. negsuc 0 *ℤ numbers c) x +ℤ pos denominator *ℤ x n ≡ pos 0 = sym (dot_wide_any n (λ c. negsuc 0 *ℤ numbers c) x (pos denominator)) ∙ ap (λ (f : ℕ → ℤ). dot (suc n) f x) (sym (put_same m W (λ j. put n (pos 0) (rows j)))) ∙ zeros m (omega arith) in
            let none : dot n (λ c. negsuc 0 *ℤ numbers c) x ≡ pos 0 = zero_dot n (λ c. negsuc 0 *ℤ numbers c) x inner in
            omega (arith, ints, z, none)))
        | inr ne ↦ inner c (omega arith)
      ];
}
  where
    W : ℕ → ℤ
    W = put n (pos denominator) (λ c. negsuc 0 *ℤ numbers c)

    R : ℕ → ℕ → ℤ
    R = put m W (λ j. put n (pos 0) (rows j))

    B : ℕ → ℕ → ℤ
    B = put m (unit n) (λ j. put n (costs j) (columns j))

    O : ℕ → ℤ
    O = put m (pos denominator) own

    zero_dot : (n : ℕ) (r x : ℕ → ℤ) → ((c : ℕ) → c < n → x c ≡ pos 0) → dot n r x ≡ pos 0
    zero_dot n r x h = dot_same n r x r (λ c. pos 0 *ℤ r c) (λ c lt. refl) (λ c lt. h c lt ∙ omega (arith, ints)) ∙ dot-scale n (pos 0) r r ∙ omega (arith, ints)

    last_is : (x : ℕ → ℤ) → dot (suc n) (R m) (B m) ≡ dot (suc n) W (unit n)
    last_is x = ap (λ (f : ℕ → ℤ). dot (suc n) f (B m)) (put_same m W (λ j. put n (pos 0) (rows j))) ∙ ap (λ (f : ℕ → ℤ). dot (suc n) W f) (put_same m (unit n) (λ j. put n (costs j) (columns j)))

    last_unit : dot (suc n) W (unit n) ≡ pos denominator
    last_unit = dot_unit n W ∙ put_same n (pos denominator) (λ c. negsuc 0 *ℤ numbers c)

    front : (i j : ℕ) → i ≢ m → j ≢ m → dot (suc n) (R i) (B j) ≡ dot n (rows i) (columns j)
    front i j p q =
        ap (λ (f : ℕ → ℤ). dot (suc n) f (B j)) (put_other m W (λ j. put n (pos 0) (rows j)) i p) ∙ ap (λ (f : ℕ → ℤ). dot (suc n) (put n (pos 0) (rows i)) f) (put_other m (unit n) (λ j. put n (costs j) (columns j)) j q)
        ∙ dot_wide n (rows i) (columns j) (pos 0) (costs j) ∙ omega (arith, ints)

    front_kills : (i : ℕ) → i ≢ m → dot (suc n) (R i) (B m) ≡ pos 0
    front_kills i p =
        ap (λ (f : ℕ → ℤ). dot (suc n) f (B m)) (put_other m W (λ j. put n (pos 0) (rows j)) i p) ∙ ap (λ (f : ℕ → ℤ). dot (suc n) (put n (pos 0) (rows i)) f) (put_same m (unit n) (λ j. put n (costs j) (columns j)))
        ∙ dot_unit n (put n (pos 0) (rows i)) ∙ put_same n (pos 0) (rows i)

    last_kills : (j : ℕ) → j < suc m → j ≢ m → dot (suc n) (R m) (B j) ≡ pos 0
    last_kills j lt ne =
        ap (λ (f : ℕ → ℤ). dot (suc n) f (B j)) (put_same m W (λ j. put n (pos 0) (rows j))) ∙ ap (λ (f : ℕ → ℤ). dot (suc n) W f) (put_other m (unit n) (λ j. put n (costs j) (columns j)) j ne)
        ∙ dot_wide n (λ c. negsuc 0 *ℤ numbers c) (columns j) (pos denominator) (costs j)
        ∙ omega (arith, ints, dot_scaled n (negsuc 0) numbers (λ c. negsuc 0 *ℤ numbers c) (columns j) (λ c less. refl), priced.meets j (omega arith))

-- ---- the sides of its box, where a unit column stands for the last one

narrow_high : (n k c : ℕ) (columns : ℕ → ℕ → ℤ) (costs : ℕ → ℤ) → c ≢ n → c ≢ k → highs (suc n) (put n (unit k) (wide_columns n n columns costs)) c ≡ highs n columns c
unfolding highs wide_columns
narrow_high n k c columns costs p q =
    ap (λ (f : ℕ → ℤ). sum_to n (λ j. pos (up (put n (unit k) (put n (unit n) (λ j. put n (costs j) (columns j))) j c))) +ℤ pos (up (f c))) (put_same n (unit k) (put n (unit n) (λ j. put n (costs j) (columns j))))
    ∙ ap (λ (v : ℤ). sum_to n (λ j. pos (up (put n (unit k) (put n (unit n) (λ j. put n (costs j) (columns j))) j c))) +ℤ pos (up v)) (unit_other k c q)
    ∙ omega (
      arith,
      ints,
      sum-same n (λ j. pos (up (put n (unit k) (put n (unit n) (λ j. put n (costs j) (columns j))) j c))) (λ j. pos (up (columns j c))) (λ j lt.
          ap (λ (f : ℕ → ℤ). pos (up (f c))) (put_other n (unit k) (put n (unit n) (λ j. put n (costs j) (columns j))) j (λ e. omega arith) ∙ put_other n (unit n) (λ j. put n (costs j) (columns j)) j (λ e. omega arith))
          ∙ ap (λ (v : ℤ). pos (up v)) (put_other n (costs j) (columns j) c p)),
    )

cost_sum : (n k : ℕ) (columns : ℕ → ℕ → ℤ) (costs : ℕ → ℤ) (part : ℤ → ℕ) → part (pos 0) ≡ 0 → n ≢ k →
    sum_to (suc n) (λ j. pos (part (put n (unit k) (wide_columns n n columns costs) j n))) ≡ sum_to n (λ j. pos (part (costs j)))
unfolding wide_columns
cost_sum n k columns costs part zero_is q =
    ap (λ (f : ℕ → ℤ). sum_to n (λ j. pos (part (put n (unit k) (put n (unit n) (λ j. put n (costs j) (columns j))) j n))) +ℤ pos (part (f n))) (put_same n (unit k) (put n (unit n) (λ j. put n (costs j) (columns j))))
    ∙ ap (λ (v : ℤ). sum_to n (λ j. pos (part (put n (unit k) (put n (unit n) (λ j. put n (costs j) (columns j))) j n))) +ℤ pos (part v)) (unit_other k n q)
    ∙ omega (
      arith,
      ints,
      zero_is,
      sum-same n (λ j. pos (part (put n (unit k) (put n (unit n) (λ j. put n (costs j) (columns j))) j n))) (λ j. pos (part (costs j))) (λ j lt.
          ap (λ (f : ℕ → ℤ). pos (part (f n))) (put_other n (unit k) (put n (unit n) (λ j. put n (costs j) (columns j))) j (λ e. omega arith) ∙ put_other n (unit n) (λ j. put n (costs j) (columns j)) j (λ e. omega arith))
          ∙ ap (λ (v : ℤ). pos (part v)) (put_same n (costs j) (columns j))),
    )

-- all columns' sums together
pub highs_total : (n m w : ℕ) (columns : ℕ → ℕ → ℤ) → IsPlain n m w columns → sum_to n (λ c. highs m columns c) ≤ℤ pos (m * w)
unfolding highs
highs_total n m w columns is =
    omega (
      arith,
      ints,
      sum-swap n m (λ c j. pos (up (columns j c))),
      sum-le m (λ j. sum_to n (λ c. pos (up (columns j c)))) (λ j. pos w) (λ j lt. omega (arith, ints, sum-same n (λ c. pos (up (columns j c))) (columns j) (λ c less. up_plain (columns j c) (is.least j c lt less)), is.sums j lt)),
      sum_times m w,
    )

-- the numbers and the denominator have no common divisor above 1: the wide row takes the value 1
unfoldable pub wide_row : (n : ℕ) (numbers : ℕ → ℤ) (denominator : ℕ) → ℕ → ℤ
wide_row n numbers denominator = put n (pos denominator) (λ c. negsuc 0 *ℤ numbers c)

plain_side : (n k c : ℕ) (columns : ℕ → ℕ → ℤ) (costs : ℕ → ℤ) (w : ℕ) → IsPlain n n w columns → c < n → c ≢ k →
    IsSide (suc n) (put n (unit k) (wide_columns n n columns costs)) c (pos 0) (unsigned_abs (highs n columns c))
unfolding wide_columns
plain_side n k c columns costs w is lt ne =
    plain (λ j inside. elim (cases_eq j n) [
      | inl e ↦ subst (λ (v : ℕ → ℤ). pos 0 ≤ℤ v c) (sym (ap new e ∙ put_same n (unit k) (put n (unit n) (λ j. put n (costs j) (columns j))))) (subst (λ (v : ℤ). pos 0 ≤ℤ v) (sym (unit_other k c ne)) (omega (arith, ints)))
      | inr other ↦ subst (λ (v : ℤ). pos 0 ≤ℤ v) (sym (old j other)) (is.least j c (omega arith) lt)
    ]) refl (narrow_high n k c columns costs (λ e. omega arith) ne ∙ omega (arith, ints, highs_least n columns c))
  where
    new : ℕ → ℕ → ℤ
    new = put n (unit k) (put n (unit n) (λ j. put n (costs j) (columns j)))

    old : (j : ℕ) → j ≢ n → new j c ≡ columns j c
    old j other =
        ap (λ (f : ℕ → ℤ). f c) (put_other n (unit k) (put n (unit n) (λ j. put n (costs j) (columns j))) j other ∙ put_other n (unit n) (λ j. put n (costs j) (columns j)) j other)
        ∙ put_other n (costs j) (columns j) c (λ e. omega arith)

wide_at : (n m : ℕ) (rows : ℕ → ℕ → ℤ) (numbers : ℕ → ℤ) (denominator : ℕ) → wide_rows n m rows numbers denominator m ≡ wide_row n numbers denominator
unfolding wide_rows wide_row
wide_at n m rows numbers denominator = put_same m (put n (pos denominator) (λ c. negsuc 0 *ℤ numbers c)) (λ j. put n (pos 0) (rows j))

pub denominator-le : (n w : ℕ) (columns rows : ℕ → ℕ → ℤ) (own costs numbers : ℕ → ℤ) (denominator : ℕ) → IsBasis n n columns rows own → IsPlain n n w columns →
    IsPriced n n columns costs numbers denominator → (z : ℕ → ℤ) → dot (suc n) (wide_row n numbers denominator) z ≡ pos 1 → denominator ≤ w ^ n
unfolding wide_row
denominator-le n w columns rows own costs numbers denominator basis is priced z value =
    omega (arith, bound, product-le n w lengths total, at_n)
  where
    lengths : ℕ → ℕ
    lengths c = unsigned_abs (highs n columns c)

    at_n : unsigned_abs (wide_rows n n rows numbers denominator n n) ≡ denominator
    at_n = ap (λ (f : ℕ → ℤ). unsigned_abs (f n)) (wide_at n n rows numbers denominator) ∙ ap unsigned_abs (put_same n (pos denominator) (λ c. negsuc 0 *ℤ numbers c))

    bound : unsigned_abs (wide_rows n n rows numbers denominator n n) ≤ product_of n lengths
    bound = number-le_product n (suc n) (wide_columns n n columns costs) (wide_rows n n rows numbers denominator) (wide_own n own denominator)
        (IsBasis-wide n n columns rows own costs numbers denominator basis priced) n n (omega arith) (omega arith) (omega (arith, at_n, priced.positive)) z
        (ap (λ (f : ℕ → ℤ). dot (suc n) f z) (wide_at n n rows numbers denominator) ∙ value)
        (λ c. pos 0) lengths
        (λ c lt. subst (λ (b : ℕ). IsSide (suc n) (put n (unit n) (wide_columns n n columns costs)) b (pos 0) (lengths c)) (sym (skip_before n c lt)) (plain_side n n c columns costs w is lt (λ e. omega arith)))

    total : sum_below n lengths ≤ n * w
    total = omega (arith, ints, sum_below-is n lengths, sum-same n (λ c. highs n columns c) (λ c. pos (lengths c)) (λ c less. omega (arith, ints, highs_least n columns c)), highs_total n n w columns is)

-- the sum of the magnitudes of the costs
sizes_total : (n s : ℕ) (costs : ℕ → ℤ) → ((j : ℕ) → j < n → unsigned_abs (costs j) ≤ s) → (sum_to n (λ j. pos (up (costs j))) +ℤ sum_to n (λ j. pos (down (costs j)))) ≤ℤ pos (n * s)
sizes_total n s costs h =
    omega (
      arith,
      ints,
      sum-add n (λ j. pos (up (costs j))) (λ j. pos (down (costs j))),
      sum_times n s,
      sum-le n (λ j. pos (up (costs j)) +ℤ pos (down (costs j))) (λ j. pos s) (λ j lt. size (costs j) (h j lt)),
    )
  where
    size : (z : ℤ) → unsigned_abs z ≤ s → (pos (up z) +ℤ pos (down z)) ≤ℤ pos s
    size (pos k) h = omega (arith, ints)
    size (negsuc k) h = omega (arith, ints)

product-same : (n : ℕ) (f g : ℕ → ℕ) → ((c : ℕ) → c < n → f c ≡ g c) → product_of n f ≡ product_of n g
product-same zero f g h = refl
product-same (suc n) f g h = rw (product-same n f g (λ c lt. h c (omega arith)), h n (omega arith))

lows_cost : (n k : ℕ) (columns : ℕ → ℕ → ℤ) (costs : ℕ → ℤ) → n ≢ k → lows (suc n) (put n (unit k) (wide_columns n n columns costs)) n ≡ sum_to n (λ j. pos (down (costs j)))
unfolding lows
lows_cost n k columns costs q = cost_sum n k columns costs down refl q

highs_cost : (n k : ℕ) (columns : ℕ → ℕ → ℤ) (costs : ℕ → ℤ) → n ≢ k → highs (suc n) (put n (unit k) (wide_columns n n columns costs)) n ≡ sum_to n (λ j. pos (up (costs j)))
unfolding highs
highs_cost n k columns costs q = cost_sum n k columns costs up refl q

-- a potential's number at k: the other components and the costs
pub potential-le_product : (b w s : ℕ) (columns rows : ℕ → ℕ → ℤ) (own costs numbers : ℕ → ℤ) (denominator : ℕ) → IsBasis (suc b) (suc b) columns rows own → IsPlain (suc b) (suc b) w columns →
    IsPriced (suc b) (suc b) columns costs numbers denominator → ((j : ℕ) → j < suc b → unsigned_abs (costs j) ≤ s) →
    (z : ℕ → ℤ) → dot (suc (suc b)) (wide_row (suc b) numbers denominator) z ≡ pos 1 →
    (k : ℕ) → k < suc b → b ^ b * unsigned_abs (numbers k) ≤ (suc b * w) ^ b * (suc b * s + 1)
unfolding wide_row
potential-le_product b w s columns rows own costs numbers denominator basis is priced small z value k within =
    elim (cases_lt 0 (unsigned_abs (wide_rows n n rows numbers denominator n k))) [
      | inl some ↦ subst (λ (v : ℕ). b ^ b * v ≤ (suc b * w) ^ b * (suc b * s + 1)) at_k (chain (bound some))
      | inr none ↦ let zero_is : unsigned_abs (numbers k) ≡ 0 = omega (arith, at_k) in rw zero_is (omega arith)
    ]
  where
    W : ℕ → ℕ → ℤ
    W = put (suc b) (unit k) (wide_columns (suc b) (suc b) columns costs)

    H : ℤ
    H = sum_to (suc b) (λ j. pos (up (costs j)))

    V : ℤ
    V = sum_to (suc b) (λ j. pos (down (costs j)))

    X : ℕ
    X = unsigned_abs (H +ℤ V +ℤ pos 1)

    plain_length : ℕ → ℕ
    plain_length c = unsigned_abs (highs (suc b) columns (skip k c))

    lengths : ℕ → ℕ
    lengths = put b X plain_length

    low : ℕ → ℤ
    low = put b (pos 0 -ℤ V) (λ c. pos 0)

    V_least : pos 0 ≤ℤ V
    V_least = omega (arith, ints, sum-le (suc b) (λ j. pos 0) (λ j. pos (down (costs j))) (λ j lt. omega (arith, ints)), sum-zero (suc b) (λ j. pos 0) (λ j lt. refl))

    H_least : pos 0 ≤ℤ H
    H_least = omega (arith, ints, sum-le (suc b) (λ j. pos 0) (λ j. pos (up (costs j))) (λ j lt. omega (arith, ints)), sum-zero (suc b) (λ j. pos 0) (λ j lt. refl))

    V_is : lows (suc (suc b)) W (suc b) ≡ V
    V_is = lows_cost (suc b) k columns costs (λ e. omega arith)

    H_is : highs (suc (suc b)) W (suc b) ≡ H
    H_is = highs_cost (suc b) k columns costs (λ e. omega arith)

    X_is : pos X ≡ H +ℤ V +ℤ pos 1
    X_is = omega (arith, ints, V_least, H_least)

    X_most : X ≤ suc b * s + 1
    X_most = omega (arith, ints, X_is, sizes_total (suc b) s costs small)

    sides : (c : ℕ) → c < suc b → IsSide (suc (suc b)) W (skip k c) (low c) (lengths c)
    sides c lt = elim (cases_eq c b) [
      | inl e ↦ subst (λ (a : ℕ). IsSide (suc (suc b)) W (skip k a) (low a) (lengths a)) (sym e)
          (subst (λ (a : ℕ). IsSide (suc (suc b)) W a (low b) (lengths b)) (sym (skip_after k b (omega arith)))
          (signed (put_same b (pos 0 -ℤ V) (λ c. pos 0) ∙ ap (λ (v : ℤ). pos 0 -ℤ v) (sym V_is))
          (omega (arith, ints, H_is, V_is, X_is, ap pos (put_same b X plain_length)))))
      | inr ne ↦ subst (λ (v : ℤ). IsSide (suc (suc b)) W (skip k c) v (lengths c)) (sym (put_other b (pos 0 -ℤ V) (λ c. pos 0) c ne))
          (subst (λ (v : ℕ). IsSide (suc (suc b)) W (skip k c) (pos 0) v) (sym (put_other b X plain_length c ne))
          (plain_side (suc b) k (skip k c) columns costs w is (skip_below b k c (omega arith)) (skip_apart k c)))
    ]

    bound : 0 < unsigned_abs (wide_rows (suc b) (suc b) rows numbers denominator (suc b) k) → unsigned_abs (wide_rows (suc b) (suc b) rows numbers denominator (suc b) k) ≤ product_of (suc b) lengths
    bound some = number-le_product (suc b) (suc (suc b)) (wide_columns (suc b) (suc b) columns costs) (wide_rows (suc b) (suc b) rows numbers denominator) (wide_own (suc b) own denominator)
        (IsBasis-wide (suc b) (suc b) columns rows own costs numbers denominator basis priced) (suc b) k (omega arith) (omega arith) some z
        (ap (λ (f : ℕ → ℤ). dot (suc (suc b)) f z) (wide_at (suc b) (suc b) rows numbers denominator) ∙ value) low lengths sides

    total : sum_below b plain_length ≤ suc b * w
    total = omega (
      arith,
      ints,
      sum_below-is b plain_length,
      sum-same b (λ c. highs (suc b) columns (skip k c)) (λ c. pos (plain_length c)) (λ c less. omega (arith, ints, highs_least (suc b) columns (skip k c))),
      highs_total (suc b) (suc b) w columns is,
      sum_skip b k (λ c. highs (suc b) columns c) within,
      highs_least (suc b) columns k,
    )

    power : b ^ b * product_of b lengths ≤ (suc b * w) ^ b
    power = rw (product-same b lengths plain_length (λ c lt. put_other b X plain_length c (λ e. omega arith))) (omega (arith, power_mean b plain_length, pow-le-pow_left total b))

    chain : {v : ℕ} → v ≤ product_of (suc b) lengths → b ^ b * v ≤ (suc b * w) ^ b * (suc b * s + 1)
    chain {v} h =
        let last_is : lengths b ≡ X = put_same b X plain_length in
        let first : v ≤ product_of b lengths * X = subst (λ (a : ℕ). v ≤ product_of b lengths * a) last_is h in
        let second : (b ^ b * product_of b lengths) * X ≤ (suc b * w) ^ b * (suc b * s + 1) = mul-le (b ^ b * product_of b lengths) X ((suc b * w) ^ b) (suc b * s + 1) power X_most in
        omega (arith, mul-le-mul_left (b ^ b) first, second)

    n : ℕ
    n = suc b

    at_k : unsigned_abs (wide_rows n n rows numbers denominator n k) ≡ unsigned_abs (numbers k)
    at_k = ap (λ (f : ℕ → ℤ). unsigned_abs (f k)) (wide_at n n rows numbers denominator) ∙ ap unsigned_abs (put_other n (pos denominator) (λ c. negsuc 0 *ℤ numbers c) k (λ e. omega arith)) ∙ omega (arith, ints)

-- for at most 8 components
mean_ratio : (b s : ℕ) → b < 8 → 1 ≤ s → suc b ^ b * (suc b * s + 1) ≤ 3 * suc b * s * b ^ b
mean_ratio zero s h k = omega arith
mean_ratio (suc zero) s h k = omega arith
mean_ratio (suc (suc zero)) s h k = omega arith
mean_ratio (suc (suc (suc zero))) s h k = omega arith
mean_ratio (suc (suc (suc (suc zero)))) s h k = omega arith
mean_ratio (suc (suc (suc (suc (suc zero))))) s h k = omega arith
mean_ratio (suc (suc (suc (suc (suc (suc zero)))))) s h k = omega arith
mean_ratio (suc (suc (suc (suc (suc (suc (suc zero))))))) s h k = omega arith
mean_ratio (suc (suc (suc (suc (suc (suc (suc (suc b)))))))) s h k = absurd (omega arith)

pub potential-le : (b w s : ℕ) (columns rows : ℕ → ℕ → ℤ) (own costs numbers : ℕ → ℤ) (denominator : ℕ) → IsBasis (suc b) (suc b) columns rows own → IsPlain (suc b) (suc b) w columns →
    IsPriced (suc b) (suc b) columns costs numbers denominator → ((j : ℕ) → j < suc b → unsigned_abs (costs j) ≤ s) →
    (z : ℕ → ℤ) → dot (suc (suc b)) (wide_row (suc b) numbers denominator) z ≡ pos 1 → b < 8 → 1 ≤ s →
    (k : ℕ) → k < suc b → unsigned_abs (numbers k) ≤ 3 * suc b * s * w ^ b
potential-le b w s columns rows own costs numbers denominator basis is priced small z value few some k within =
    le_of_mul-le-mul_left {k = b ^ b} both (more b)
  where
    more : (b : ℕ) → 0 < b ^ b
    more zero = omega (arith, pow-zero 0)
    more (suc b) = one-le-pow (suc b) (suc b) (omega arith)

    both : b ^ b * unsigned_abs (numbers k) ≤ b ^ b * (3 * suc b * s * w ^ b)
    both = omega (
      arith,
      potential-le_product b w s columns rows own costs numbers denominator basis is priced small z value k within,
      ap (λ (v : ℕ). v * (suc b * s + 1)) (mul-pow (suc b) w b),
      mul-le-mul_left (w ^ b) (mean_ratio b s few some),
    )
