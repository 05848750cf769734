-- The parts of what has a value have values, and each has one.
use Rattle.std.proofs.Common.{◌≡◌, ℕ, zero, suc, ◌<◌, ◌≤◌, List, [], ◌∷◌, take, Some, None, refl, sym, ap, subst, ◌∙◌, arith, inl, inr}
use Rattle.std.specs.Prelude.{ℤ, slice_get, max}
use Rattle.std.proofs.lemmas.Bool.{cases_lt}
use Rattle.std.proofs.lemmas.Option.{slice_get_within}
use Rattle.cal_dec.specs.Decimals.{Decimal}
use Rattle.cal_dec.specs.Scales.{nano_of}
use Rattle.tdb_expr.specs.declared.factor.Factor.{Factor}
use Rattle.tdb_expr.specs.declared.product.Product.{Product}
use Rattle.tdb_expr.specs.declared.expression.Expr.{Expr}
use Rattle.tdb_expr.specs.declared.expression.Expr.TheVariants.{Sum as sum_of}
use Rattle.tdb_expr.specs.declared.ranged.Piece.{Piece}
use Rattle.tdb_expr.specs.declared.ranged.Ranged.{Ranged}
use Rattle.temp_fun.specs.Pieces.{Holds}
use Rattle.temp_fun.specs.Functions.{Functions, place_of, IsFunctionAt}
use Rattle.temp_fun.specs.Values.{FactorIs, FactorsAre, ProductsAre, FunctionIs, number, temperature, power, logarithm, the_gas_constant, function, no_factor, factor, no_product, one_more, sum, from_nano, total, product_of, IsSmall}

pub some_is : {X : Type 0} {a b : X} → Some a ≡ Some b → a ≡ b
some_is e = cc

pub same_at : {X : Type 0} (xs : List X) (i j : ℕ) (a b : X) → i ≡ j → slice_get xs i ≡ Some a → slice_get xs j ≡ Some b → a ≡ b
same_at xs i j a b e ha hb = some_is (sym ha ∙ ap (slice_get xs) e ∙ hb)

-- ---- one expression holds

earlier_not : (t : ℕ) (pieces : List Piece) (a b : Expr) (g : Holds t pieces a) (h : Holds t pieces b) → g.place < h.place → ⊥
earlier_not t pieces a b g h less = elim g.here [
  | inl below ↦ h.earlier g.place g.piece less g.stands below
  | inr last ↦ omega (arith, last, less, slice_get_within pieces h.place h.piece h.stands)
]

pub holds_same : (t : ℕ) (pieces : List Piece) (a b : Expr) → Holds t pieces a → Holds t pieces b → a ≡ b
holds_same t pieces a b g h = elim (cases_lt g.place h.place) [
  | inl less ↦ absurd (earlier_not t pieces a b g h less)
  | inr not_less ↦ elim (cases_lt h.place g.place) [
    | inl less ↦ absurd (earlier_not t pieces b a h g less)
    | inr not_more ↦
        let place : g.place ≡ h.place = omega arith in
        sym g.expr_is ∙ ap (λ (p : Piece). p.expr) (same_at pieces g.place h.place g.piece h.piece place g.stands h.stands) ∙ h.expr_is
  ]
]

pub sums_same : (t : ℕ) (pieces : List Piece) (ps qs : List Product) → Holds t pieces (sum_of ps) → Holds t pieces (sum_of qs) → ps ≡ qs
sums_same t pieces ps qs g h = let e : sum_of ps ≡ sum_of qs = holds_same t pieces (sum_of ps) (sum_of qs) g h in cc

pub function_same_at : (f : Functions) (i j : ℕ) (a b : Ranged) → i ≡ j → IsFunctionAt f i a → IsFunctionAt f j b → a ≡ b
function_same_at f i j a b e ha hb = ap (λ (x : List ℕ × Ranged). x.1) (same_at f i j (ha.0, a) (hb.0, b) e ha.1 hb.1)

no_place : (f : Functions) (name : List ℕ) (place : ℕ) → place_of f name ≡ None → place_of f name ≡ Some place → ⊥
no_place f name place e g = let h : None ≡ Some place = sym e ∙ g in cc

-- ---- one value

mutual
  pub factor_same : (f : Functions) (t : ℕ) (x : Factor) (d : Decimal) (h : ℕ) (e : Decimal) (k : ℕ) → FactorIs f t x d h → FactorIs f t x e k → (d ≡ e) × (h ≡ k)
  factor_same f t _ _ _ _ _ (number d) (number _) = (refl, refl)
  factor_same f t _ _ _ _ _ temperature temperature = (refl, refl)
  factor_same f t _ _ _ _ _ (power n) (power _) = (refl, refl)
  factor_same f t _ _ _ _ _ logarithm logarithm = (refl, refl)
  factor_same f t _ _ _ _ _ (the_gas_constant name none is) (the_gas_constant _ _ _) = (refl, refl)
  factor_same f t _ _ _ _ _ (the_gas_constant name none is) (function _ place v h at has low) = absurd (no_place f name place none at)
  factor_same f t _ _ _ _ _ (function name place v h at has low) (the_gas_constant _ none is) = absurd (no_place f name place none at)
  factor_same f t _ _ _ _ _ (function name place v h at has low) (function _ place' w k at' has' low') =
      let e : place' ≡ place = some_is (sym at' ∙ at) in
      let both = function_same f t place v h w k has (subst (λ (p : ℕ). FunctionIs f t p w k) e has') in
      (ap from_nano both.0, both.1)

  pub factors_same : (f : Functions) (t : ℕ) (xs : List Factor) (ds : List Decimal) (h : ℕ) (es : List Decimal) (k : ℕ) → FactorsAre f t xs ds h → FactorsAre f t xs es k → (ds ≡ es) × (h ≡ k)
  factors_same f t _ _ _ _ _ no_factor no_factor = (refl, refl)
  factors_same f t _ _ _ _ _ (factor x xs d ds h m first rest) (factor _ _ e es k n first' rest') =
      let a = factor_same f t x d h e k first first' in
      let b = factors_same f t xs ds m es n rest rest' in
      (ap (λ y. y ∷ ds) a.0 ∙ ap (λ ys. e ∷ ys) b.0, ap (λ y. max y m) a.1 ∙ ap (λ y. max k y) b.1)

  pub products_same : (f : Functions) (t : ℕ) (ps : List Product) (vs : List ℤ) (h : ℕ) (ws : List ℤ) (k : ℕ) → ProductsAre f t ps vs h → ProductsAre f t ps ws k → (vs ≡ ws) × (h ≡ k)
  products_same f t _ _ _ _ _ no_product no_product = (refl, refl)
  products_same f t _ _ _ _ _ (one_more p ps ds vs h m first fine rest) (one_more _ _ es ws k n first' fine' rest') =
      let a = factors_same f t p.factors ds h es k first first' in
      let b = products_same f t ps vs m ws n rest rest' in
      (ap (λ (ys : List Decimal). nano_of (product_of p.negative ys) ∷ vs) a.0 ∙ ap (λ ys. nano_of (product_of p.negative es) ∷ ys) b.0, ap (λ y. max y m) a.1 ∙ ap (λ y. max k y) b.1)

  pub function_same : (f : Functions) (t : ℕ) (place : ℕ) (v : ℤ) (h : ℕ) (w : ℤ) (k : ℕ) → FunctionIs f t place v h → FunctionIs f t place w k → (v ≡ w) × (h ≡ k)
  function_same f t _ _ _ _ _ (sum place ranged ps vs h at holds are small) (sum _ ranged' qs ws k at' holds' are' small') =
      let same : ranged' ≡ ranged = function_same_at f place place ranged' ranged refl at' at in
      let products : qs ≡ ps = sums_same t ranged.pieces qs ps (subst (λ (r : Ranged). Holds t r.pieces (sum_of qs)) same holds') holds in
      let both = products_same f t ps vs h ws k are (subst (λ (xs : List Product). ProductsAre f t xs ws k) products are') in
      (ap total both.0, ap suc both.1)

-- ---- parts

pub factor_part : (f : Functions) (t : ℕ) (xs : List Factor) (ds : List Decimal) (h j : ℕ) (x : Factor) → FactorsAre f t xs ds h → slice_get xs j ≡ Some x → (d : Decimal) × (m : ℕ) × FactorIs f t x d m × (m ≤ h)
factor_part f t _ _ _ j x no_factor e = absurd (cc)
factor_part f t _ _ _ zero x (factor y xs d ds h m first rest) e = (d, h, subst (λ (z : Factor). FactorIs f t z d h) (some_is e) first, omega arith)
factor_part f t _ _ _ (suc j) x (factor y xs d ds h m first rest) e =
    let p = factor_part f t xs ds m j x rest e in
    (p.0, p.1, p.2, omega (arith, p.3))

pub product_part : (f : Functions) (t : ℕ) (ps : List Product) (vs : List ℤ) (h k : ℕ) (p : Product) → ProductsAre f t ps vs h → slice_get ps k ≡ Some p → (ds : List Decimal) × (m : ℕ) × FactorsAre f t p.factors ds m × (m ≤ h) × IsSmall (nano_of (product_of p.negative ds))
product_part f t _ _ _ k p no_product e = absurd (cc)
product_part f t _ _ _ zero p (one_more q ps ds vs h m first fine rest) e =
    let same : q ≡ p = some_is e in
    (ds, h, subst (λ (z : Product). FactorsAre f t z.factors ds h) same first, omega arith, subst (λ (z : Product). IsSmall (nano_of (product_of z.negative ds))) same fine)
product_part f t _ _ _ (suc k) p (one_more q ps ds vs h m first fine rest) e =
    let r = product_part f t ps vs m k p rest e in
    (r.0, r.1, r.2, omega (arith, r.3), r.4)

pub products_front : (f : Functions) (t : ℕ) (ps : List Product) (vs : List ℤ) (h n : ℕ) → ProductsAre f t ps vs h → (m : ℕ) × ProductsAre f t (take n ps) (take n vs) m
products_front f t _ _ _ zero no_product = (0, no_product)
products_front f t _ _ _ (suc n) no_product = (0, no_product)
products_front f t _ _ _ zero (one_more q ps ds vs h m first fine rest) = (0, no_product)
products_front f t _ _ _ (suc n) (one_more q ps ds vs h m first fine rest) =
    let r = products_front f t ps vs m n rest in
    (max h r.0, one_more q (take n ps) ds (take n vs) h r.0 first fine r.1)

pub get_take : {X : Type 0} (xs : List X) (n j : ℕ) (x : X) → j < n → slice_get xs j ≡ Some x → slice_get (take n xs) j ≡ Some x
get_take [] n j x less e = absurd (cc)
get_take (y ∷ xs) zero j x less e = absurd (omega (arith, less))
get_take (y ∷ xs) (suc n) zero x less e = e
get_take (y ∷ xs) (suc n) (suc j) x less e = get_take xs n j x (omega (arith, less)) e

pub take_take : {X : Type 0} (xs : List X) (m n : ℕ) → m ≤ n → take m (take n xs) ≡ take m xs
take_take [] zero zero h = refl
take_take [] zero (suc n) h = refl
take_take [] (suc m) zero h = refl
take_take [] (suc m) (suc n) h = refl
take_take (x ∷ xs) zero zero h = refl
take_take (x ∷ xs) zero (suc n) h = refl
take_take (x ∷ xs) (suc m) zero h = absurd (omega (arith, h))
take_take (x ∷ xs) (suc m) (suc n) h = ap (λ ys. x ∷ ys) (take_take xs m n (omega (arith, h)))
