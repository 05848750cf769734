-- Factors and products, one more at a time.
use Rattle.std.proofs.Common.{◌≡◌, ℕ, zero, suc, ◌+◌, ◌^◌, ◌<◌, ◌≤◌, List, [], ◌∷◌, ◌++◌, length, get_or, take, Some, Bool, refl, sym, ap, subst, ◌∙◌, arith, inl, inr}
use Rattle.std.specs.Prelude.{ℤ, pos, ◌+ℤ◌, ◌*ℤ◌, unsigned_abs, slice_get, max}
use Rattle.std.proofs.lemmas.List.{take_more, take-append-le}
use Rattle.std.proofs.lemmas.List.Sums.{fold-append}
use Rattle.std.proofs.lemmas.Option.{get_or_from_slice_get, slice_get_within, slice_get-get_or}
use Rattle.std.proofs.lemmas.Bool.{cases_lt}
use Rattle.std.proofs.lemmas.Int.{ints, unsigned_abs-mul}
use Rattle.std.proofs.lemmas.Nat.{mul-lt}
use Rattle.cal_dec.specs.declared.dec.Dec.{Dec}
use Rattle.cal_dec.specs.Decimals.{Decimal, decimal_of}
use Rattle.cal_dec.specs.Products.{product}
use Rattle.cal_dec.specs.Scales.{nano_of}
use Rattle.cal_dec.specs.Trimming.{trimmed_exponent}
use Rattle.tdb_expr.specs.declared.factor.Factor.{Factor}
use Rattle.tdb_expr.specs.declared.product.Product.{Product}
use Rattle.temp_fun.specs.declared.partial.Partial.{Partial}
use Rattle.temp_fun.specs.Functions.{Functions}
use Rattle.temp_fun.specs.Values.{FactorIs, FactorsAre, ProductsAre, no_factor, factor, no_product, one_more, number, temperature, power, logarithm, the_gas_constant, function, product_of, one, total, IsSmall, AreSmallSums}
use Rattle.temp_fun.specs.Progress.{IsPartial, IsWhole, IsTimes}

pub take_next : {X : Type 0} (xs : List X) (j : ℕ) (x : X) → slice_get xs j ≡ Some x → take (j + 1) xs ≡ take j xs ++ x ∷ []
take_next xs j x e = take_more xs j x (slice_get_within xs j x e) ∙ ap (λ y. take j xs ++ y ∷ []) (get_or_from_slice_get xs j x x e)

pub take_all : {X : Type 0} (xs : List X) (n : ℕ) → length xs ≤ n → take n xs ≡ xs
take_all [] zero h = refl
take_all [] (suc n) h = refl
take_all (x ∷ xs) zero h = absurd (omega (arith, h))
take_all (x ∷ xs) (suc n) h = ap (λ ys. x ∷ ys) (take_all xs n (omega (arith, h)))

max-zero : (k : ℕ) → max k 0 ≡ max 0 k
max-zero k = omega arith

max-assoc : (h k m : ℕ) → max h (max k m) ≡ max (max h k) m
max-assoc h k m = omega arith

pub factors_next : (f : Functions) (t : ℕ) (xs : List Factor) (ds : List Decimal) (h : ℕ) (x : Factor) (d : Decimal) (k : ℕ) → FactorsAre f t xs ds h → FactorIs f t x d k → FactorsAre f t (xs ++ x ∷ []) (ds ++ d ∷ []) (max h k)
factors_next f t _ _ _ x d k no_factor is = subst (λ (m : ℕ). FactorsAre f t (x ∷ []) (d ∷ []) m) (max-zero k) (factor x [] d [] k 0 is no_factor)
factors_next f t _ _ _ x d k (factor y ys e es h m first rest) is =
    subst (λ (n : ℕ). FactorsAre f t (y ∷ (ys ++ x ∷ [])) (e ∷ (es ++ d ∷ [])) n) (max-assoc h m k) (factor y (ys ++ x ∷ []) e (es ++ d ∷ []) h (max m k) first (factors_next f t ys es m x d k rest is))

pub products_next : (f : Functions) (t : ℕ) (ps : List Product) (vs : List ℤ) (h : ℕ) (p : Product) (ds : List Decimal) (k : ℕ) → ProductsAre f t ps vs h → FactorsAre f t p.factors ds k → IsSmall (nano_of (product_of p.negative ds)) →
    ProductsAre f t (ps ++ p ∷ []) (vs ++ nano_of (product_of p.negative ds) ∷ []) (max h k)
products_next f t _ _ _ p ds k no_product are small = subst (λ (m : ℕ). ProductsAre f t (p ∷ []) (nano_of (product_of p.negative ds) ∷ []) m) (max-zero k) (one_more p [] ds [] k 0 are small no_product)
products_next f t _ _ _ p ds k (one_more q qs es vs h m first fine rest) are small =
    subst (λ (n : ℕ). ProductsAre f t (q ∷ (qs ++ p ∷ [])) (nano_of (product_of q.negative es) ∷ (vs ++ nano_of (product_of p.negative ds) ∷ [])) n) (max-assoc h m k)
    (one_more q (qs ++ p ∷ []) es (vs ++ nano_of (product_of p.negative ds) ∷ []) h (max m k) first fine (products_next f t qs vs m p ds k rest are small))

factor_height : (f : Functions) (t : ℕ) (x : Factor) (d : Decimal) (h : ℕ) → FactorIs f t x d h → h ≤ 64
factor_height f t _ _ _ (number d) = omega arith
factor_height f t _ _ _ temperature = omega arith
factor_height f t _ _ _ (power n) = omega arith
factor_height f t _ _ _ logarithm = omega arith
factor_height f t _ _ _ (the_gas_constant name none is) = omega arith
factor_height f t _ _ _ (function name place v h at is low) = low

pub factors_height : (f : Functions) (t : ℕ) (xs : List Factor) (ds : List Decimal) (h : ℕ) → FactorsAre f t xs ds h → h ≤ 64
factors_height f t _ _ _ no_factor = omega arith
factors_height f t _ _ _ (factor x xs d ds h k first rest) = omega (arith, factor_height f t x d h first, factors_height f t xs ds k rest)

pub products_height : (f : Functions) (t : ℕ) (ps : List Product) (vs : List ℤ) (h : ℕ) → ProductsAre f t ps vs h → h ≤ 64
products_height f t _ _ _ no_product = omega arith
products_height f t _ _ _ (one_more p ps ds vs h k first fine rest) = omega (arith, factors_height f t p.factors ds h first, products_height f t ps vs k rest)

pub total_next : (vs : List ℤ) (v : ℤ) → total (vs ++ v ∷ []) ≡ total vs +ℤ v
unfolding total
total_next vs v = fold-append ◌+ℤ◌ (pos 0) vs (v ∷ [])

pub small_none : AreSmallSums []
unfolding AreSmallSums IsSmall total
small_none zero = omega arith
small_none (suc n) = omega arith

pub small_next : (vs : List ℤ) (v : ℤ) → AreSmallSums vs → IsSmall (total vs +ℤ v) → AreSmallSums (vs ++ v ∷ [])
unfolding AreSmallSums
small_next vs v h last n =
    elim (cases_lt (length vs) n) [
      | inl more ↦ subst IsSmall (sym (ap total (take_all (vs ++ v ∷ []) n (omega (arith, length_next vs v))) ∙ total_next vs v)) last
      | inr few ↦ subst IsSmall (sym (ap total (take-append-le n vs (v ∷ []) few))) (h n)
    ]
  where
    length_next : (vs : List ℤ) (v : ℤ) → length (vs ++ v ∷ []) ≡ length vs + 1
    length_next [] v = omega arith
    length_next (x ∷ xs) v = omega (arith, length_next xs v)

pub total_small : (vs : List ℤ) → AreSmallSums vs → IsSmall (total vs)
unfolding AreSmallSums
total_small vs h = subst IsSmall (ap total (take_all vs (length vs) (omega arith))) (h (length vs))

pub product_next : (negative : Bool) (ds : List Decimal) (d : Decimal) → product_of negative (ds ++ d ∷ []) ≡ product (product_of negative ds) d
unfolding product_of
product_next negative ds d = fold-append product (one negative) ds (d ∷ [])

-- the exponent of a product
pub product_exponent : (a b : Dec) → unsigned_abs (product (decimal_of a) (decimal_of b)).exponent ≤ unsigned_abs a.exponent + unsigned_abs b.exponent + 18
product_exponent a b =
    let small : unsigned_abs (a.mantissa *ℤ b.mantissa) < 10 ^ 36 = omega (arith, unsigned_abs-mul a.mantissa b.mantissa, mul-lt (unsigned_abs a.mantissa) (unsigned_abs b.mantissa) (10 ^ 18) (10 ^ 18) a.bounded b.bounded) in
    omega (arith, trimmed_exponent (a.mantissa *ℤ b.mantissa) (a.exponent +ℤ b.exponent) 18 small (omega arith), sum_of a.exponent b.exponent)
  where
    sum_of : (x y : ℤ) → unsigned_abs (x +ℤ y) ≤ unsigned_abs x + unsigned_abs y
    sum_of x y = omega (arith, ints)

pub times_is : (a b : Partial) (d : Dec) (h : ℕ) → decimal_of b.number ≡ product (decimal_of a.number) (decimal_of d) → b.height ≡ max a.height h → unsigned_abs d.exponent ≤ 300 → IsTimes a d h b
times_is a b d h e m modest = record {
  number_is = e;
  height_is = m;
  modest = omega (arith, ap (λ (x : Decimal). unsigned_abs x.exponent) e, product_exponent a.number d);
}

pub partial_next : (f : Functions) (t : ℕ) (p : Product) (j : ℕ) (x : Factor) (d : Dec) (h : ℕ) (a b : Partial) → IsPartial f t p j a → slice_get p.factors j ≡ Some x → FactorIs f t x (decimal_of d) h → IsTimes a d h b → IsPartial f t p (j + 1) b
partial_next f t p j x d h a b before stands is times = record {
  numbers = before.numbers ++ decimal_of d ∷ [];
  valued = rw (take_next p.factors j x stands, times.height_is) (factors_next f t (take j p.factors) before.numbers a.height x (decimal_of d) h before.valued is);
  number_is = times.number_is ∙ ap (λ (y : Decimal). product y (decimal_of d)) before.number_is ∙ sym (product_next p.negative before.numbers (decimal_of d));
  modest = omega (arith, before.modest, times.modest);
}

pub partial_whole : (f : Functions) (t : ℕ) (p : Product) (j : ℕ) (a : Partial) → length p.factors ≤ j → IsPartial f t p j a → IsWhole f t p a
partial_whole f t p j a end is = record {
  numbers = is.numbers;
  valued = subst (λ (xs : List Factor). FactorsAre f t xs is.numbers a.height) (take_all p.factors j end) is.valued;
  number_is = is.number_is;
}

pub stands_at : {X : Type 0} (xs ys : List X) (j : ℕ) (x : X) → xs ≡ ys → j < length xs → x ≡ get_or xs j x → slice_get ys j ≡ Some x
stands_at xs ys j x e within is = ap (λ zs. slice_get zs j) (sym e) ∙ slice_get-get_or xs j x within ∙ ap (λ y. Some y) (sym is)
