-- The weights of the places: that they fit, their least common denominator, and the list of those above 0.
use Rattle.std.proofs.Common.{◌≡◌, ℕ, zero, suc, ◌+◌, ◌^◌, ◌<◌, ◌≤◌, ◌≢◌, List, [], ◌∷◌, ◌++◌, length, get_or, refl, arith, ap, sym, ◌∙◌, subst, inl, inr, length-append}
use Rattle.std.specs.Prelude.{ℤ, pos, ◌+ℤ◌, ◌*ℤ◌, ◌≤ℤ◌, unsigned_abs, Option, Some, None}
use Rattle.std.specs.Int.{◌∣◌}
use Rattle.std.proofs.lemmas.Int.{ints}
use Rattle.std.proofs.lemmas.Bool.{cases_eq}
use Rattle.std.proofs.lemmas.Nat.Gcd.{dvd_trans, le_of_dvd}
use Rattle.std.proofs.lemmas.List.{get_or_default}
use Rattle.std.proofs.lemmas.List.Elements.{All-append, All-cons, All-nil}
use Rattle.std.proofs.lemmas.List.Quantifiers.{all_pairs_push}
use Rattle.cal_math.specs.Sums.{sum_of}
use Rattle.cal_math.specs.Vectors.{at, sum_to}
use Rattle.cal_math.proofs.Vectors.{sum-le}
use Rattle.lp_laws.proofs.Bounds.{sum_times}
use Rattle.lp_basis.specs.Held.{numbers_at, own_at}
use Rattle.lp_basis.specs.declared.row.Row.{Row}
use Rattle.lp_basis.proofs.Held.{number_small, powers_room}
use Rattle.cal_math.proofs.Divisors.{dvd_from}
use Rattle.lp_core.specs.Plans.{Weight}
use Rattle.lp_core.specs.Fitting.{IsTarget}
use Rattle.cal_whole.specs.Divisors.{IsLeastMultiple}
use Rattle.lp_core.specs.Weights.{FitsRow, CanWeigh, IsCommon, FitsCommon, numerator_over, weight_at, value_of, FitsWeights, IsWeight, AreWeights}
use Rattle.lp_core.specs.declared.weight.Fraction.{Fraction}

-- ---- the product of a row with the target

pub target_sum : (n : ℕ) (target : List ℤ) → n ≤ 8 → IsTarget target → sum_to n (at target) ≤ℤ pos (2 ^ 53)
target_sum n target few aim =
    omega (arith, ints, sum-le n (at target) (λ c. pos (2 ^ 50)) (λ c lt. aim.most c), sum_times n (2 ^ 50), few)

pub fits_row : (b w : ℕ) (columns : ℕ → ℕ → ℤ) (rows : List Row) (target : List ℤ) (j : ℕ) (row : Row) → CanWeigh b w columns rows target → j < suc b → numbers_at rows j ≡ row.numbers.items → own_at rows j ≡ row.own →
    FitsRow (w ^ b) (2 ^ 53) row target
fits_row b w columns rows target j row can lt numbers_are own_is =
    let lengths : length row.numbers.items ≡ suc b = sym (ap length numbers_are) ∙ can.held.lengths j lt in
    record {
      product = record {
        sized = lengths ∙ sym can.size;
        row_small = λ c. subst (λ (xs : List ℤ). unsigned_abs (at xs c) ≤ w ^ b) numbers_are (number_small b w columns rows can.held j lt c);
        least = can.aim.least;
        sum = rw lengths (target_sum (suc b) target (omega (arith, can.size, can.aim.few)) can.aim);
        room = omega (arith, (powers_room b w can.held.wide can.held.room).1);
      };
      least = rw lengths (rw (numbers_are, can.size) at (can.least j lt));
      own = subst (λ (z : ℤ). pos 1 ≤ℤ z) own_is (can.held.basis.above j lt);
    }

-- ---- the least common denominator

pub common_none : (fractions : List Fraction) → IsCommon fractions 0 1
common_none fractions = record {
  positive = omega arith;
  divides = λ j d lt. absurd (omega arith);
  least = λ h all. one_divides h;
}
  where
    one_divides : (h : ℕ) → 1 ∣ h
    one_divides h = dvd_from 1 h h (omega arith)

pub common_more : (fractions : List Fraction) (j parts next : ℕ) (d : Fraction) → j < length fractions → IsCommon fractions j parts → IsLeastMultiple parts (get_or fractions j d).denominator next → IsCommon fractions (j + 1) next
common_more fractions j parts next d lt is more = record {
  positive = more.above;
  divides = λ i e less. elim (cases_eq i j) [
    | inl same ↦ subst (λ (k : ℕ). (get_or fractions k e).denominator ∣ next) (sym same) (subst (λ (f : Fraction). f.denominator ∣ next) (get_or_default fractions j d e lt) more.second)
    | inr other ↦ dvd_trans _ (is.divides i e (omega arith)) more.first
  ];
  least = λ h all. more.least h (is.least h (λ i e less. all i e (omega arith))) (all j d (omega arith));
}

pub common_small : (fractions : List Fraction) (j parts : ℕ) → FitsCommon fractions → j ≤ length fractions → IsCommon fractions j parts → parts ≤ 2 ^ 62
common_small fractions j parts fits le is =
    fits.small parts (λ h some all. le_of_dvd some (is.least h (λ i d lt. all i d (omega arith))))

-- ---- the list of weights

pub weight_read : (fractions : List Fraction) (parts j : ℕ) (d : Fraction) → j < length fractions → weight_at fractions parts j ≡ numerator_over (get_or fractions j d) parts
weight_read [] parts j d lt = absurd (omega arith)
weight_read (f ∷ fractions) parts zero d lt = refl
weight_read (f ∷ fractions) parts (suc j) d lt = weight_read fractions parts j d (omega arith)

sum_pushed : (f : Weight → ℤ) (weights : List Weight) (weight : Weight) → sum_of f (weights ++ weight ∷ []) ≡ sum_of f weights +ℤ f weight
sum_pushed f [] weight = omega (arith, ints)
sum_pushed f (w ∷ weights) weight = omega (arith, ints, sum_pushed f weights weight)

IsWeight-more : (places : List (Option ℕ)) (fractions : List Fraction) (parts n : ℕ) (weight : Weight) → IsWeight places fractions parts n weight → IsWeight places fractions parts (suc n) weight
IsWeight-more places fractions parts n weight is = record { place = is.place; within = omega (arith, is.within); column = is.column; exact = is.exact; above = is.above }

pub weights_none : (places : List (Option ℕ)) (fractions : List Fraction) (parts : ℕ) → AreWeights places fractions parts 0 []
weights_none places fractions parts = record {
  each = All-nil (IsWeight places fractions parts 0);
  few = omega arith;
  different = λ i j d lt less. absurd (omega arith);
  total = λ f. refl;
}

-- a place that has no column or no weight
pub weights_same : (places : List (Option ℕ)) (fractions : List Fraction) (parts j : ℕ) (weights : List Weight) → ((f : ℕ → ℤ) → pos (weight_at fractions parts j) *ℤ value_of f (get_or places j None) ≡ pos 0) →
    AreWeights places fractions parts j weights → AreWeights places fractions parts (suc j) weights
weights_same places fractions parts j weights none are = record {
  each = λ k d lt. IsWeight-more places fractions parts j (get_or weights k d) (are.each k d lt);
  few = omega (arith, are.few);
  different = are.different;
  total = λ f. omega (arith, ints, are.total f, none f);
}

pub weights_more : (places : List (Option ℕ)) (fractions : List Fraction) (parts j : ℕ) (weights : List Weight) (weight : Weight) → FitsWeights places fractions parts → j < length places → get_or places j None ≡ Some weight.0 →
    weight.1 ≡ pos (weight_at fractions parts j) → pos 1 ≤ℤ weight.1 → AreWeights places fractions parts j weights → AreWeights places fractions parts (suc j) (weights ++ weight ∷ [])
weights_more places fractions parts j weights weight fits lt column is above are = record {
  each = All-append (IsWeight places fractions parts (suc j)) weights (weight ∷ []) (λ k d less. IsWeight-more places fractions parts j (get_or weights k d) (are.each k d less))
      (All-cons (IsWeight places fractions parts (suc j)) weight [] (record { place = j; within = omega arith; column = column; exact = is; above = above }) (All-nil (IsWeight places fractions parts (suc j))));
  few = omega (arith, are.few, length-append weights (weight ∷ []));
  different = all_pairs_push (λ v w. v.0 ≢ w.0) weights weight are.different (λ k d less same.
      let before : IsWeight places fractions parts j (get_or weights k d) = are.each k d less in
      omega (arith, before.within, fits.different before.place j weight.0 (omega (arith, before.within, lt)) lt (before.column ∙ ap (λ (i : ℕ). Some i) same) column));
  total = λ f. sum_pushed (λ w. w.1 *ℤ f w.0) weights weight ∙ omega (arith, ints, are.total f, product f);
}
  where
    product : (f : ℕ → ℤ) → weight.1 *ℤ f weight.0 ≡ pos (weight_at fractions parts j) *ℤ value_of f (get_or places j None)
    product f = ap (λ (z : ℤ). z *ℤ f weight.0) is ∙ ap (λ (p : Option ℕ). pos (weight_at fractions parts j) *ℤ value_of f p) (sym column)
