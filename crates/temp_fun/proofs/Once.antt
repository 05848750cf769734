-- A ranged text has one value or one first refusal.
use Rattle.std.proofs.Common.{◌≡◌, ℕ, suc, ◌+◌, ◌<◌, ◌≤◌, List, [], ◌∷◌, ◌++◌, take, Some, None, refl, sym, ap, subst, ◌∙◌, arith, inl, inr}
use Rattle.std.specs.Prelude.{ℤ, ◌+ℤ◌, slice_get, max}
use Rattle.std.proofs.lemmas.Bool.{cases_lt}
use Rattle.cal_dec.specs.Decimals.{Decimal}
use Rattle.cal_dec.specs.Scales.{nano_of}
use Rattle.tdb_expr.specs.declared.factor.Factor.{Factor}
use Rattle.tdb_expr.specs.declared.product.Product.{Product}
use Rattle.tdb_expr.specs.declared.expression.Expr.{Expr}
use Rattle.tdb_expr.specs.declared.expression.Expr.TheVariants.{Sum as sum_of}
use Rattle.tdb_expr.specs.declared.ranged.Ranged.{Ranged}
use Rattle.temp_fun.specs.declared.fault.EvalFault.{EvalFault}
use Rattle.temp_fun.specs.Pieces.{Holds}
use Rattle.temp_fun.specs.Functions.{Functions, IsFunctionAt, IsAmong}
use Rattle.temp_fun.specs.Values.{FactorIs, FactorsAre, ProductsAre, FunctionIs, the_gas_constant, function, sum, total, product_of, IsSmall, AreSmallSums, IsValue}
use Rattle.temp_fun.specs.Stops.{AreRead, AreNumbers, IsWorth, ExprStops, FactorStops, outside, at_factor, at_product, at_sum, missing, cycle, inside, too_high, IsRefusal}
use Rattle.temp_fun.proofs.Fronts.{take_next, products_next, total_next}
use Rattle.temp_fun.proofs.Parts.{some_is, same_at, holds_same, sums_same, function_same_at, factors_same, products_same, function_same, factor_part, product_part, products_front, get_take, take_take}

-- the value of a front and the next product
front_values : (f : Functions) (t : ℕ) (ps : List Product) (vs : List ℤ) (h k : ℕ) (p : Product) (front : List ℤ) (g : ℕ) (ds : List Decimal) (m : ℕ) → ProductsAre f t ps vs h → slice_get ps k ≡ Some p → ProductsAre f t (take k ps) front g →
    FactorsAre f t p.factors ds m → IsSmall (nano_of (product_of p.negative ds)) → front ++ nano_of (product_of p.negative ds) ∷ [] ≡ take (k + 1) vs
front_values f t ps vs h k p front g ds m are stands before factors fine =
    let whole = products_front f t ps vs h (k + 1) are in
    let next = products_next f t (take k ps) front g p ds m before factors fine in
    let next' = subst (λ (xs : List Product). ProductsAre f t xs (front ++ nano_of (product_of p.negative ds) ∷ []) (max g m)) (sym (take_next ps k p stands)) next in
    (products_same f t (take (k + 1) ps) (front ++ nano_of (product_of p.negative ds) ∷ []) (max g m) (take (k + 1) vs) whole.0 next' whole.1).0

-- so their sum is small
front_small : (f : Functions) (t : ℕ) (ps : List Product) (vs : List ℤ) (h k : ℕ) (p : Product) (front : List ℤ) (g : ℕ) (ds : List Decimal) (m : ℕ) → ProductsAre f t ps vs h → AreSmallSums vs → slice_get ps k ≡ Some p → ProductsAre f t (take k ps) front g →
    FactorsAre f t p.factors ds m → IsSmall (nano_of (product_of p.negative ds)) → IsSmall (total front +ℤ nano_of (product_of p.negative ds))
unfolding AreSmallSums
front_small f t ps vs h k p front g ds m are small stands before factors fine =
    subst IsSmall (sym (ap total (front_values f t ps vs h k p front g ds m are stands before factors fine)) ∙ total_next front (nano_of (product_of p.negative ds))) (small (k + 1))

-- ---- no value beside a refusal

mutual
  expr_both : (f : Functions) (t : ℕ) (followed : List ℕ) (line : ℕ) (expr : Expr) (fault : EvalFault) (ps : List Product) (vs : List ℤ) (h : ℕ) →
      ExprStops f t followed line expr fault → expr ≡ sum_of ps → ProductsAre f t ps vs h → AreSmallSums vs → ((place : ℕ) (v : ℤ) (k : ℕ) → IsAmong place followed → FunctionIs f t place v k → suc h ≤ k) → ⊥
  expr_both f t _ _ _ _ ps vs h (outside followed line) e are small above = cc
  expr_both f t _ _ _ _ ps vs h (at_factor followed line products k p values j x fault read numbers stops) e are small above =
      let same : products ≡ ps = cc in
      let part = product_part f t ps vs h k p are (ap (λ (xs : List Product). slice_get xs k) (sym same) ∙ read.stands) in
      let own = factor_part f t p.factors part.0 part.1 j x part.2 numbers.stands in
      factor_both f t followed line x fault own.0 own.1 stops own.2 (λ place v n among is. omega (arith, above place v n among is, own.3, part.3))
  expr_both f t _ _ _ _ ps vs h (at_product followed line products k p values v read worth large) e are small above =
      let same : products ≡ ps = cc in
      let part = product_part f t ps vs h k p are (ap (λ (xs : List Product). slice_get xs k) (sym same) ∙ read.stands) in
      let ds = factors_same f t p.factors part.0 part.1 worth.numbers worth.height part.2 worth.valued in
      large (subst IsSmall (ap (λ (ys : List Decimal). nano_of (product_of p.negative ys)) ds.0 ∙ sym worth.nano) part.4)
  expr_both f t _ _ _ _ ps vs h (at_sum followed line products k p values v read worth fine large) e are small above =
      let same : products ≡ ps = cc in
      let before = subst (λ (xs : List Product). ProductsAre f t (take k xs) values read.height) same read.valued in
      large (subst (λ (y : ℤ). IsSmall (total values +ℤ y)) (sym worth.nano)
      (front_small f t ps vs h k p values read.height worth.numbers worth.height are small (ap (λ (xs : List Product). slice_get xs k) (sym same) ∙ read.stands) before worth.valued (subst IsSmall worth.nano fine)))

  factor_both : (f : Functions) (t : ℕ) (followed : List ℕ) (line : ℕ) (x : Factor) (fault : EvalFault) (d : Decimal) (m : ℕ) → FactorStops f t followed line x fault → FactorIs f t x d m → ((place : ℕ) (v : ℤ) (k : ℕ) → IsAmong place followed → FunctionIs f t place v k → suc m ≤ k) → ⊥
  factor_both f t _ _ _ _ _ _ (missing followed line name none other) (the_gas_constant _ none' is) above = other is
  factor_both f t _ _ _ _ _ _ (missing followed line name none other) (function _ place v h at has low) above = let e : None ≡ Some place = sym none ∙ at in cc
  factor_both f t _ _ _ _ _ _ (cycle followed line name place at among) (the_gas_constant _ none is) above = let e : None ≡ Some place = sym none ∙ at in cc
  factor_both f t _ _ _ _ _ _ (cycle followed line name place at among) (function _ place' v h at' has low) above =
      let same : place' ≡ place = some_is (sym at' ∙ at) in
      omega (arith, above place v h among (subst (λ (p : ℕ). FunctionIs f t p v h) same has))
  factor_both f t _ _ _ _ _ _ (inside followed line name place ranged expr fault at fresh here holds stops) (the_gas_constant _ none is) above = let e : None ≡ Some place = sym none ∙ at in cc
  factor_both f t _ _ _ _ _ _ (inside followed line name place ranged expr fault at fresh here holds stops) (function _ _ _ _ at' (sum place' ranged' ps vs h here' holds' are small) low) above =
      let same : place' ≡ place = some_is (sym at' ∙ at) in
      let text : ranged' ≡ ranged = function_same_at f place' place ranged' ranged same here' here in
      let holds'' = subst (λ (r : Ranged). Holds t r.pieces (sum_of ps)) text holds' in
      let chosen : expr ≡ sum_of ps = holds_same t ranged.pieces expr (sum_of ps) holds holds'' in
      expr_both f t (place ∷ followed) ranged.line expr fault ps vs h stops chosen are small (λ q v k among is. elim among [
        | inl own ↦ omega (arith, (function_same f t place (total vs) (suc h) v k (sum place ranged ps vs h here holds'' are small) (subst (λ (n : ℕ). FunctionIs f t n v k) own is)).1)
        | inr more ↦ omega (arith, above q v k more is)
      ])
  factor_both f t _ _ _ _ _ _ (too_high followed line name place v h at is high) (the_gas_constant _ none r) above = let e : None ≡ Some place = sym none ∙ at in cc
  factor_both f t _ _ _ _ _ _ (too_high followed line name place v h at is high) (function _ place' w k at' has low) above =
      let same : place' ≡ place = some_is (sym at' ∙ at) in
      omega (arith, (function_same f t place v h w k is (subst (λ (p : ℕ). FunctionIs f t p w k) same has)).1, high, low)

-- the functions that are followed have no value
abbrev AreBlocked : Functions → ℕ → List ℕ → Type 0
AreBlocked f t followed = (place : ℕ) (v : ℤ) (k : ℕ) → IsAmong place followed → FunctionIs f t place v k → ⊥

-- nor has one in which the reading stops
stopped : (f : Functions) (t : ℕ) (followed : List ℕ) (place : ℕ) (ranged : Ranged) (expr : Expr) (fault : EvalFault) → AreBlocked f t followed → IsFunctionAt f place ranged → Holds t ranged.pieces expr → ExprStops f t (place ∷ followed) ranged.line expr fault →
    (v : ℤ) (k : ℕ) → FunctionIs f t place v k → ⊥
stopped f t followed place ranged expr fault blocked here holds stops _ _ (sum _ ranged' ps vs h here' holds' are small) =
    let text : ranged' ≡ ranged = function_same_at f place place ranged' ranged refl here' here in
    let holds'' = subst (λ (r : Ranged). Holds t r.pieces (sum_of ps)) text holds' in
    let chosen : expr ≡ sum_of ps = holds_same t ranged.pieces expr (sum_of ps) holds holds'' in
    expr_both f t (place ∷ followed) ranged.line expr fault ps vs h stops chosen are small (λ q v k among is. elim among [
      | inl own ↦ omega (arith, (function_same f t place (total vs) (suc h) v k (sum place ranged ps vs h here holds'' are small) (subst (λ (n : ℕ). FunctionIs f t n v k) own is)).1)
      | inr more ↦ absurd (blocked q v k more is)
    ])

stopped_more : (f : Functions) (t : ℕ) (followed : List ℕ) (place : ℕ) (ranged : Ranged) (expr : Expr) (fault : EvalFault) → AreBlocked f t followed → IsFunctionAt f place ranged → Holds t ranged.pieces expr → ExprStops f t (place ∷ followed) ranged.line expr fault → AreBlocked f t (place ∷ followed)
stopped_more f t followed place ranged expr fault blocked here holds stops q v k among is = elim among [
  | inl own ↦ stopped f t followed place ranged expr fault blocked here holds stops v k (subst (λ (n : ℕ). FunctionIs f t n v k) own is)
  | inr more ↦ blocked q v k more is
]

-- ---- one refusal

-- what keeps a product from its value, or its sum from being small
abbrev IsStuck : Functions → ℕ → Product → List ℤ → Type 0
IsStuck f t p values = (ds : List Decimal) (m : ℕ) → FactorsAre f t p.factors ds m → IsSmall (nano_of (product_of p.negative ds)) → IsSmall (total values +ℤ nano_of (product_of p.negative ds)) → ⊥

stuck_at_factor : (f : Functions) (t : ℕ) (followed : List ℕ) (line : ℕ) (p : Product) (values : List ℤ) (j : ℕ) (x : Factor) (fault : EvalFault) → AreBlocked f t followed → AreNumbers f t p.factors j x → FactorStops f t followed line x fault → IsStuck f t p values
stuck_at_factor f t followed line p values j x fault blocked numbers stops ds m are fine small =
    let own = factor_part f t p.factors ds m j x are numbers.stands in
    factor_both f t followed line x fault own.0 own.1 stops own.2 (λ q v k among is. absurd (blocked q v k among is))

stuck_at_product : (f : Functions) (t : ℕ) (p : Product) (values : List ℤ) (v : ℤ) → IsWorth f t p v → (IsSmall v → ⊥) → IsStuck f t p values
stuck_at_product f t p values v worth large ds m are fine small =
    let same = factors_same f t p.factors ds m worth.numbers worth.height are worth.valued in
    large (subst IsSmall (ap (λ (ys : List Decimal). nano_of (product_of p.negative ys)) same.0 ∙ sym worth.nano) fine)

stuck_at_sum : (f : Functions) (t : ℕ) (p : Product) (values : List ℤ) (v : ℤ) → IsWorth f t p v → (IsSmall (total values +ℤ v) → ⊥) → IsStuck f t p values
stuck_at_sum f t p values v worth large ds m are fine small =
    let same = factors_same f t p.factors ds m worth.numbers worth.height are worth.valued in
    large (subst (λ (y : ℤ). IsSmall (total values +ℤ y)) (ap (λ (ys : List Decimal). nano_of (product_of p.negative ys)) same.0 ∙ sym worth.nano) small)

-- a stuck product is not among those that are read
not_before : (f : Functions) (t : ℕ) (products : List Product) (i k : ℕ) (p q : Product) (values others : List ℤ) → AreRead f t products i p values → IsStuck f t p values → AreRead f t products k q others → i < k → ⊥
not_before f t products i k p q values others read stuck further less =
    let stands : slice_get (take k products) i ≡ Some p = get_take products k i p less read.stands in
    let part = product_part f t (take k products) others further.height i p further.valued stands in
    let front : ProductsAre f t (take i (take k products)) values read.height = subst (λ (xs : List Product). ProductsAre f t xs values read.height) (sym (take_take products i k (omega (arith, less)))) read.valued in
    stuck part.0 part.1 part.2 part.4 (front_small f t (take k products) others further.height i p values read.height part.0 part.1 further.valued further.small stands front part.2 part.4)

same_product : (f : Functions) (t : ℕ) (products : List Product) (i k : ℕ) (p q : Product) (values others : List ℤ) → AreRead f t products i p values → IsStuck f t p values → AreRead f t products k q others → IsStuck f t q others → i ≡ k
same_product f t products i k p q values others read stuck read' stuck' = elim (cases_lt i k) [
  | inl less ↦ absurd (not_before f t products i k p q values others read stuck read' less)
  | inr not_less ↦ elim (cases_lt k i) [
    | inl less ↦ absurd (not_before f t products k i q p others values read' stuck' read less)
    | inr not_more ↦ omega arith
  ]
]

number_before : (f : Functions) (t : ℕ) (followed : List ℕ) (line : ℕ) (xs : List Factor) (i k : ℕ) (x y : Factor) (fault : EvalFault) → AreBlocked f t followed → AreNumbers f t xs i x → FactorStops f t followed line x fault → AreNumbers f t xs k y → i < k → ⊥
number_before f t followed line xs i k x y fault blocked numbers stops further less =
    let own = factor_part f t (take k xs) further.numbers further.height i x further.valued (get_take xs k i x less numbers.stands) in
    factor_both f t followed line x fault own.0 own.1 stops own.2 (λ q v n among is. absurd (blocked q v n among is))

same_factor : (f : Functions) (t : ℕ) (followed : List ℕ) (line : ℕ) (xs : List Factor) (i k : ℕ) (x y : Factor) (a b : EvalFault) → AreBlocked f t followed → AreNumbers f t xs i x → FactorStops f t followed line x a → AreNumbers f t xs k y → FactorStops f t followed line y b → x ≡ y
same_factor f t followed line xs i k x y a b blocked numbers stops numbers' stops' = elim (cases_lt i k) [
  | inl less ↦ absurd (number_before f t followed line xs i k x y a blocked numbers stops numbers' less)
  | inr not_less ↦ elim (cases_lt k i) [
    | inl less ↦ absurd (number_before f t followed line xs k i y x b blocked numbers' stops' numbers less)
    | inr not_more ↦ same_at xs i k x y (omega arith) numbers.stands numbers'.stands
  ]
]

-- the product at which the reading stops
record StopsIn (f : Functions) (t : ℕ) (followed : List ℕ) (line : ℕ) (products : List Product) (k : ℕ) (p : Product) (values : List ℤ) : Type 0 where
  pub read : AreRead f t products k p values
  pub stuck : IsStuck f t p values

-- a factor stops one product, and another is too large
not_both : (f : Functions) (t : ℕ) (followed : List ℕ) (line : ℕ) (products : List Product) (i k : ℕ) (p q : Product) (values others : List ℤ) (j : ℕ) (x : Factor) (fault : EvalFault) (v : ℤ) → AreBlocked f t followed →
    AreRead f t products i p values → AreNumbers f t p.factors j x → FactorStops f t followed line x fault → AreRead f t products k q others → IsStuck f t q others → IsWorth f t q v → ⊥
not_both f t followed line products i k p q values others j x fault v blocked read numbers stops read' stuck' worth =
    let place = same_product f t products i k p q values others read (stuck_at_factor f t followed line p values j x fault blocked numbers stops) read' stuck' in
    let same : p ≡ q = same_at products i k p q place read.stands read'.stands in
    let own = factor_part f t q.factors worth.numbers worth.height j x worth.valued (ap (λ (r : Product). slice_get r.factors j) (sym same) ∙ numbers.stands) in
    factor_both f t followed line x fault own.0 own.1 stops own.2 (λ r w n among is. absurd (blocked r w n among is))

mutual
  expr_same : (f : Functions) (t : ℕ) (followed : List ℕ) (line : ℕ) (expr : Expr) (a b : EvalFault) → ExprStops f t followed line expr a → ExprStops f t followed line expr b → AreBlocked f t followed → a ≡ b
  expr_same f t _ _ _ _ _ (outside followed line) (outside _ _) blocked = refl
  expr_same f t _ _ _ _ _ (at_factor followed line products k p values j x fault read numbers stops) (at_factor _ _ _ k' p' values' j' x' fault' read' numbers' stops') blocked =
      let place = same_product f t products k k' p p' values values' read (stuck_at_factor f t followed line p values j x fault blocked numbers stops) read' (stuck_at_factor f t followed line p' values' j' x' fault' blocked numbers' stops') in
      let same : p ≡ p' = same_at products k k' p p' place read.stands read'.stands in
      let numbers'' = subst (λ (q : Product). AreNumbers f t q.factors j' x') (sym same) numbers' in
      let own : x ≡ x' = same_factor f t followed line p.factors j j' x x' fault fault' blocked numbers stops numbers'' stops' in
      factor_stops_same f t followed line x fault fault' stops (subst (λ (y : Factor). FactorStops f t followed line y fault') (sym own) stops') blocked
  expr_same f t _ _ _ _ _ (at_factor followed line products k p values j x fault read numbers stops) (at_product _ _ _ k' p' values' v read' worth large) blocked =
      absurd (not_both f t followed line products k k' p p' values values' j x fault v blocked read numbers stops read' (stuck_at_product f t p' values' v worth large) worth)
  expr_same f t _ _ _ _ _ (at_factor followed line products k p values j x fault read numbers stops) (at_sum _ _ _ k' p' values' v read' worth fine large) blocked =
      absurd (not_both f t followed line products k k' p p' values values' j x fault v blocked read numbers stops read' (stuck_at_sum f t p' values' v worth large) worth)
  expr_same f t _ _ _ _ _ (at_product followed line products k p values v read worth large) (at_factor _ _ _ k' p' values' j x fault read' numbers stops) blocked =
      absurd (not_both f t followed line products k' k p' p values' values j x fault v blocked read' numbers stops read (stuck_at_product f t p values v worth large) worth)
  expr_same f t _ _ _ _ _ (at_product followed line products k p values v read worth large) (at_product _ _ _ k' p' values' v' read' worth' large') blocked = refl
  expr_same f t _ _ _ _ _ (at_product followed line products k p values v read worth large) (at_sum _ _ _ k' p' values' v' read' worth' fine' large') blocked = refl
  expr_same f t _ _ _ _ _ (at_sum followed line products k p values v read worth fine large) (at_factor _ _ _ k' p' values' j x fault read' numbers stops) blocked =
      absurd (not_both f t followed line products k' k p' p values' values j x fault v blocked read' numbers stops read (stuck_at_sum f t p values v worth large) worth)
  expr_same f t _ _ _ _ _ (at_sum followed line products k p values v read worth fine large) (at_product _ _ _ k' p' values' v' read' worth' large') blocked = refl
  expr_same f t _ _ _ _ _ (at_sum followed line products k p values v read worth fine large) (at_sum _ _ _ k' p' values' v' read' worth' fine' large') blocked = refl

  factor_stops_same : (f : Functions) (t : ℕ) (followed : List ℕ) (line : ℕ) (x : Factor) (a b : EvalFault) → FactorStops f t followed line x a → FactorStops f t followed line x b → AreBlocked f t followed → a ≡ b
  factor_stops_same f t _ _ _ _ _ (missing followed line name none other) (missing _ _ _ _ _) blocked = refl
  factor_stops_same f t _ _ _ _ _ (missing followed line name none other) (cycle _ _ _ place at among) blocked = let e : None ≡ Some place = sym none ∙ at in cc
  factor_stops_same f t _ _ _ _ _ (missing followed line name none other) (inside _ _ _ place ranged expr fault at fresh here holds stops) blocked = let e : None ≡ Some place = sym none ∙ at in cc
  factor_stops_same f t _ _ _ _ _ (missing followed line name none other) (too_high _ _ _ place v h at is high) blocked = let e : None ≡ Some place = sym none ∙ at in cc
  factor_stops_same f t _ _ _ _ _ (cycle followed line name place at among) (missing _ _ _ none other) blocked = let e : None ≡ Some place = sym none ∙ at in cc
  factor_stops_same f t _ _ _ _ _ (cycle followed line name place at among) (cycle _ _ _ _ _ _) blocked = refl
  factor_stops_same f t _ _ _ _ _ (cycle followed line name place at among) (inside _ _ _ place' ranged expr fault at' fresh here holds stops) blocked =
      absurd (fresh (subst (λ (n : ℕ). IsAmong n followed) (some_is (sym at ∙ at')) among))
  factor_stops_same f t _ _ _ _ _ (cycle followed line name place at among) (too_high _ _ _ place' v h at' is high) blocked =
      absurd (blocked place v h among (subst (λ (n : ℕ). FunctionIs f t n v h) (some_is (sym at' ∙ at)) is))
  factor_stops_same f t _ _ _ _ _ (inside followed line name place ranged expr fault at fresh here holds stops) (missing _ _ _ none other) blocked = let e : None ≡ Some place = sym none ∙ at in cc
  factor_stops_same f t _ _ _ _ _ (inside followed line name place ranged expr fault at fresh here holds stops) (cycle _ _ _ place' at' among) blocked =
      absurd (fresh (subst (λ (n : ℕ). IsAmong n followed) (some_is (sym at' ∙ at)) among))
  factor_stops_same f t _ _ _ _ _ (inside followed line name place ranged expr fault at fresh here holds stops) (inside _ _ _ place' ranged' expr' fault' at' fresh' here' holds' stops') blocked =
      let same : place' ≡ place = some_is (sym at' ∙ at) in
      let text : ranged' ≡ ranged = function_same_at f place' place ranged' ranged same here' here in
      let chosen : expr' ≡ expr = holds_same t ranged.pieces expr' expr (subst (λ (r : Ranged). Holds t r.pieces expr') text holds') holds in
      let first = subst (λ (n : ℕ). ExprStops f t (n ∷ followed) ranged'.line expr' fault') same stops' in
      let second = subst (λ (r : Ranged). ExprStops f t (place ∷ followed) r.line expr' fault') text first in
      let third = subst (λ (e : Expr). ExprStops f t (place ∷ followed) ranged.line e fault') chosen second in
      expr_same f t (place ∷ followed) ranged.line expr fault fault' stops third (stopped_more f t followed place ranged expr fault blocked here holds stops)
  factor_stops_same f t _ _ _ _ _ (inside followed line name place ranged expr fault at fresh here holds stops) (too_high _ _ _ place' v h at' is high) blocked =
      absurd (stopped f t followed place ranged expr fault blocked here holds stops v h (subst (λ (n : ℕ). FunctionIs f t n v h) (some_is (sym at' ∙ at)) is))
  factor_stops_same f t _ _ _ _ _ (too_high followed line name place v h at is high) (missing _ _ _ none other) blocked = let e : None ≡ Some place = sym none ∙ at in cc
  factor_stops_same f t _ _ _ _ _ (too_high followed line name place v h at is high) (cycle _ _ _ place' at' among) blocked =
      absurd (blocked place' v h among (subst (λ (n : ℕ). FunctionIs f t n v h) (some_is (sym at ∙ at')) is))
  factor_stops_same f t _ _ _ _ _ (too_high followed line name place v h at is high) (inside _ _ _ place' ranged expr fault at' fresh here holds stops) blocked =
      absurd (stopped f t followed place' ranged expr fault blocked here holds stops v h (subst (λ (n : ℕ). FunctionIs f t n v h) (some_is (sym at ∙ at')) is))
  factor_stops_same f t _ _ _ _ _ (too_high followed line name place v h at is high) (too_high _ _ _ _ _ _ _ _ _) blocked = refl

-- ---- of a ranged text

pub value_once : (f : Functions) (t : ℕ) (ranged : Ranged) (v w : ℤ) → IsValue f t ranged v → IsValue f t ranged w → v ≡ w
value_once f t ranged v w a b =
    let products : b.products ≡ a.products = sums_same t ranged.pieces b.products a.products b.holds a.holds in
    let same = products_same f t a.products a.values a.height b.values b.height a.valued (subst (λ (ps : List Product). ProductsAre f t ps b.values b.height) products b.valued) in
    a.sum_is ∙ ap total same.0 ∙ sym b.sum_is

pub no_value_refused : (f : Functions) (t : ℕ) (ranged : Ranged) (v : ℤ) (fault : EvalFault) → IsValue f t ranged v → IsRefusal f t ranged fault → ⊥
no_value_refused f t ranged v fault a r =
    expr_both f t [] ranged.line r.expr fault a.products a.values a.height r.stops (holds_same t ranged.pieces r.expr (sum_of a.products) r.holds a.holds) a.valued a.small (λ q w k among is. absurd among)

pub refusal_once : (f : Functions) (t : ℕ) (ranged : Ranged) (a b : EvalFault) → IsRefusal f t ranged a → IsRefusal f t ranged b → a ≡ b
refusal_once f t ranged a b r s =
    expr_same f t [] ranged.line r.expr a b r.stops (subst (λ (e : Expr). ExprStops f t [] ranged.line e b) (holds_same t ranged.pieces s.expr r.expr s.holds r.holds) s.stops) (λ q v k among is. absurd among)
