-- A number of a primitive row is at most a product of sums of the other columns.
use Rattle.std.proofs.Common.{◌≡◌, ℕ, zero, suc, ◌*◌, ◌^◌, ◌<◌, ◌≤◌, refl, arith, ap, sym, ◌∙◌, subst, inl, inr}
use Rattle.std.specs.Prelude.{ℤ, pos, negsuc, ◌+ℤ◌, ◌-ℤ◌, ◌*ℤ◌, ◌≤ℤ◌, ◌<ℤ◌, unsigned_abs}
use Rattle.std.proofs.lemmas.Int.{ints}
use Rattle.std.proofs.lemmas.Bool.{cases_eq, cases_lt}
use borrow.Author.Differences.{up}
use Rattle.cal_math.specs.Whole.{*ℤ_assoc}
use Rattle.lp_laws.proofs.Pigeon.{product_of}
use Rattle.cal_math.specs.Sums.{sum_below}
use Rattle.lp_laws.proofs.Mean.{product-le}
use Rattle.cal_math.specs.Vectors.{sum_to, dot}
use Rattle.cal_math.proofs.Vectors.{sum-same, sum-zero, sum-le, sum-swap, dot_one, dot-scale, dot_scaled}
use Rattle.lp_laws.proofs.Primitive.{one_from_primitive}
use Rattle.lp_laws.proofs.Skip.{skip, skip_below, skip_apart, skip_covers, sum_skip, put, put_same, put_other, unit, unit_same, unit_other}
use Rattle.lp_laws.proofs.Exchange.{IsBasis-from_exchange}
use Rattle.lp_laws.proofs.Fraction.{IsFraction, highs, highs_least, lows, lows_zero, highs_some, fraction_high, fraction_below, fraction_low}
use Rattle.lp_laws.proofs.Count.{IsBox, own-le_unit}
use Rattle.lp_laws.specs.Bases.{IsBasis, IsExchange, IsPlain, IsPrimitive}

-- ---- the box from the columns

-- how long a box is at a component: where no column is below 0 there, and in general
pub data IsSide (m : ℕ) (columns : ℕ → ℕ → ℤ) (component : ℕ) (low : ℤ) (length : ℕ) : Type 0 where
  plain : ((j : ℕ) → j < m → pos 0 ≤ℤ columns j component) → low ≡ pos 0 → highs m columns component ≡ pos length → IsSide m columns component low length
  signed : low ≡ pos 0 -ℤ lows m columns component → highs m columns component +ℤ lows m columns component +ℤ pos 1 ≡ pos length → IsSide m columns component low length

side_holds : (n m : ℕ) (columns rows : ℕ → ℕ → ℤ) (own : ℕ → ℤ) → IsBasis n m columns rows own → (y : ℕ → ℤ) → IsFraction n m rows own y →
    (c : ℕ) → c < n → (low : ℤ) (length : ℕ) → IsSide m columns c low length → (low ≤ℤ y c) × ((y c -ℤ low) <ℤ pos length)
side_holds n m columns rows own basis y is c lt low length (plain h zero_is length_is) = (
  omega (arith, ints, zero_is, fraction_low n m columns rows own basis y is c lt, lows_zero m columns c h),
  omega (arith, ints, zero_is, length_is, fraction_below n m columns rows own basis y is c lt (highs_some n m columns rows own basis c lt h)),
)
side_holds n m columns rows own basis y is c lt low length (signed low_is length_is) = (
  omega (arith, ints, low_is, fraction_low n m columns rows own basis y is c lt),
  omega (arith, ints, low_is, length_is, fraction_high n m columns rows own basis y is c lt),
)

pub IsBox-from_sides : (n m : ℕ) (columns rows : ℕ → ℕ → ℤ) (own : ℕ → ℤ) → IsBasis n m columns rows own →
    (size : ℕ) (kept : ℕ → ℕ) (low : ℕ → ℤ) (lengths : ℕ → ℕ) → ((c : ℕ) → c < size → kept c < n) →
    ((c : ℕ) → c < size → IsSide m columns (kept c) (low c) (lengths c)) → IsBox n m rows own size kept low lengths
unfolding IsBox
IsBox-from_sides n m columns rows own basis size kept low lengths within sides y is c lt =
    side_holds n m columns rows own basis y is (kept c) (within c lt) (low c) (lengths c) (sides c lt)

-- ---- a unit column comes in

turn_of : ℤ → ℤ
turn_of (pos n) = pos 1
turn_of (negsuc n) = negsuc 0

turn_one : (z : ℤ) → turn_of z *ℤ turn_of z ≡ pos 1
unfolding turn_of
turn_one (pos n) = refl
turn_one (negsuc n) = refl

turn_abs : (z : ℤ) → turn_of z *ℤ z ≡ pos (unsigned_abs z)
unfolding turn_of
turn_abs (pos n) = omega (arith, ints)
turn_abs (negsuc n) = omega (arith, ints)

-- a number, not 0, of a row that takes the value 1
pub number-le_product : (s m : ℕ) (columns rows : ℕ → ℕ → ℤ) (own : ℕ → ℤ) → IsBasis (suc s) m columns rows own →
    (i k : ℕ) → i < m → k < suc s → 1 ≤ unsigned_abs (rows i k) →
    (z : ℕ → ℤ) → dot (suc s) (rows i) z ≡ pos 1 →
    (low : ℕ → ℤ) (lengths : ℕ → ℕ) → ((c : ℕ) → c < s → IsSide m (put i (unit k) columns) (skip k c) (low c) (lengths c)) →
    unsigned_abs (rows i k) ≤ product_of s lengths
number-le_product s m columns rows own basis i k lt within some z value low lengths sides =
    own-le_unit (suc s) m columns' rows' own' basis' s (skip k) low lengths
    (IsBox-from_sides (suc s) m columns' rows' own' basis' s (skip k) low lengths (λ c less. skip_below s k c less) sides)
    i k d lt within (put_same i (pos d) old_own)
    (λ c less ne. ap (λ (f : ℕ → ℤ). f c) (put_same i (unit k) columns) ∙ unit_other k c ne)
    (ap (λ (f : ℕ → ℤ). f k) (put_same i (unit k) columns) ∙ unit_same k)
    (λ c less ne. skip_covers s k c within less ne)
    (λ c. turn *ℤ z c)
    (ap (λ (f : ℕ → ℤ). dot (suc s) f (λ c. turn *ℤ z c)) (put_same i turned old_rows) ∙ turned_value)
  where
    d : ℕ
    d = unsigned_abs (rows i k)

    turn : ℤ
    turn = turn_of (rows i k)

    turned : ℕ → ℤ
    turned c = turn *ℤ rows i c

    old_rows : ℕ → ℕ → ℤ
    old_rows j c = pos d *ℤ rows j c -ℤ dot (suc s) (rows j) (unit k) *ℤ turned c

    old_own : ℕ → ℤ
    old_own j = pos d *ℤ own j

    columns' : ℕ → ℕ → ℤ
    columns' = put i (unit k) columns

    rows' : ℕ → ℕ → ℤ
    rows' = put i turned old_rows

    own' : ℕ → ℤ
    own' = put i (pos d) old_own

    turned_unit : dot (suc s) turned (unit k) ≡ pos d
    turned_unit =
        dot_one (suc s) k turned (unit k) within (λ c less ne. unit_other k c ne)
        ∙ omega (arith, ints, ap (λ (v : ℤ). turned k *ℤ v) (unit_same k), turn_abs (rows i k))

    turned_value : dot (suc s) turned (λ c. turn *ℤ z c) ≡ pos 1
    turned_value =
        dot-scale (suc s) turn turned z
        ∙ ap (λ (v : ℤ). turn *ℤ v) (dot_scaled (suc s) turn (rows i) turned z (λ c less. refl))
        ∙ sym (*ℤ_assoc turn turn (dot (suc s) (rows i) z))
        ∙ ap (λ (v : ℤ). v *ℤ dot (suc s) (rows i) z) (turn_one (rows i k))
        ∙ omega (arith, ints, value)

    exchange : IsExchange (suc s) m i columns rows own (unit k) turn columns' rows' own'
    exchange = record {
      turned = record { one = turn_one (rows i k); exact = λ c less. ap (λ (f : ℕ → ℤ). f c) (put_same i turned old_rows) };
      positive = rw (put_same i (pos d) old_own) (omega (arith, ints));
      enters = λ c less. ap (λ (f : ℕ → ℤ). f c) (put_same i (unit k) columns);
      stays = λ j less ne c inside. ap (λ (f : ℕ → ℤ). f c) (put_other i (unit k) columns j ne);
      own_is = put_same i (pos d) old_own ∙ sym turned_unit ∙ ap (λ (f : ℕ → ℤ). dot (suc s) f (unit k)) (sym (put_same i turned old_rows));
      rows_are = λ j less ne c inside. rw (put_same i turned old_rows, put_same i (pos d) old_own) (ap (λ (f : ℕ → ℤ). f c) (put_other i turned old_rows j ne));
      owns_are = λ j less ne. rw (put_same i (pos d) old_own) (put_other i (pos d) old_own j ne);
    }

    basis' : IsBasis (suc s) m columns' rows' own'
    basis' = IsBasis-from_exchange (suc s) m i columns rows own (unit k) turn columns' rows' own' lt basis exchange

-- ---- columns with no number below 0 whose sums are at most w

pub sum_below-is : (n : ℕ) (f : ℕ → ℕ) → pos (sum_below n f) ≡ sum_to n (λ c. pos (f c))
sum_below-is zero f = refl
sum_below-is (suc n) f = omega (arith, ints, sum_below-is n f)

pub sum_times : (n w : ℕ) → sum_to n (λ c. pos w) ≡ pos (n * w)
sum_times zero w = omega (arith, ints)
sum_times (suc n) w = omega (arith, ints, sum_times n w)

pub up_plain : (z : ℤ) → pos 0 ≤ℤ z → pos (up z) ≡ z
up_plain (pos n) h = refl
up_plain (negsuc n) h = absurd (omega (arith, ints))

-- the sums of the columns but one, over the components but one
sides_total : (s m w i k : ℕ) (columns : ℕ → ℕ → ℤ) → i < suc m → k < suc s → IsPlain (suc s) (suc m) w columns →
    sum_to s (λ c. highs (suc m) (put i (unit k) columns) (skip k c)) ≤ℤ pos (m * w)
unfolding highs
sides_total s m w i k columns lt within is =
    let new : ℕ → ℕ → ℤ = put i (unit k) columns in
    let part : ℕ → ℤ = λ j. sum_to s (λ c. pos (up (new j (skip k c)))) in
    let mine : part i ≡ pos 0 = sum-zero s (λ c. pos (up (new i (skip k c)))) (λ c less. ap (λ (f : ℕ → ℤ). pos (up (f (skip k c)))) (put_same i (unit k) columns) ∙ ap (λ (v : ℤ). pos (up v)) (unit_other k (skip k c) (skip_apart k c))) in
    let other : (b : ℕ) → b < m → part (skip i b) ≤ℤ pos w = λ b less.
    let j : ℕ = skip i b in
    let inside : j < suc m = skip_below m i b less in
    let same : part j ≡ sum_to s (λ c. columns j (skip k c)) = sum-same s (λ c. pos (up (new j (skip k c)))) (λ c. columns j (skip k c)) (λ c q.
    ap (λ (f : ℕ → ℤ). pos (up (f (skip k c)))) (put_other i (unit k) columns j (skip_apart i b)) ∙ up_plain (columns j (skip k c)) (is.least j (skip k c) inside (skip_below s k c q))) in
    omega (arith, ints, same, sum_skip s k (columns j) within, is.least j k inside within, is.sums j inside) in
    omega (arith, ints, sum-swap s (suc m) (λ c j. pos (up (new j (skip k c)))), sum_skip m i part lt, mine, sum-le m (λ b. part (skip i b)) (λ b. pos w) other, sum_times m w)

-- a number of a primitive row over such columns
pub number-le : (s w : ℕ) (columns rows : ℕ → ℕ → ℤ) (own : ℕ → ℤ) → IsBasis (suc s) (suc s) columns rows own → IsPlain (suc s) (suc s) w columns →
    (i k : ℕ) → i < suc s → k < suc s → IsPrimitive (suc s) (rows i) → unsigned_abs (rows i k) ≤ w ^ s
number-le s w columns rows own basis is i k lt within primitive =
    elim (cases_lt 0 (unsigned_abs (rows i k))) [
      | inl some ↦ omega (
        arith,
        number-le_product s (suc s) columns rows own basis i k lt within some (one_from_primitive (suc s) (rows i) primitive).0 (one_from_primitive (suc s) (rows i) primitive).1 (λ c. pos 0) lengths sides,
        product-le s w lengths total,
      )
      | inr none ↦ omega arith
    ]
  where
    new : ℕ → ℕ → ℤ
    new = put i (unit k) columns

    lengths : ℕ → ℕ
    lengths c = unsigned_abs (highs (suc s) new (skip k c))

    length_is : (c : ℕ) → highs (suc s) new (skip k c) ≡ pos (lengths c)
    length_is c = omega (arith, ints, highs_least (suc s) new (skip k c))

    sides : (c : ℕ) → c < s → IsSide (suc s) new (skip k c) (pos 0) (lengths c)
    sides c less = plain (λ j inside. elim (cases_eq j i) [
      | inl e ↦ subst (λ (v : ℕ → ℤ). pos 0 ≤ℤ v (skip k c)) (sym (ap new e ∙ put_same i (unit k) columns)) (subst (λ (v : ℤ). pos 0 ≤ℤ v) (sym (unit_other k (skip k c) (skip_apart k c))) (omega (arith, ints)))
      | inr ne ↦ subst (λ (v : ℕ → ℤ). pos 0 ≤ℤ v (skip k c)) (sym (put_other i (unit k) columns j ne)) (is.least j (skip k c) inside (skip_below s k c less))
    ]) refl (length_is c)

    total : sum_below s lengths ≤ s * w
    total = omega (arith, ints, sum_below-is s lengths, sum-same s (λ c. highs (suc s) new (skip k c)) (λ c. pos (lengths c)) (λ c less. length_is c), sides_total s s w i k columns lt within is)
