-- A ranged text has a value or a first refusal.
use Rattle.std.proofs.Common.{◌≡◌, ℕ, zero, suc, ◌+◌, ◌^◌, ◌<◌, List, [], ◌∷◌, ◌++◌, length, take, set, Option, Some, None, refl, sym, ap, subst, arith, inl, inr}
use Rattle.std.specs.Prelude.{ℤ, pos, negsuc, ◌+ℤ◌, ◌<ℤ◌, unsigned_abs, slice_get, max, ◌⊎◌}
use Rattle.std.specs.List.{position_or_len}
use Rattle.std.specs.Map.{keys_of}
use Rattle.std.proofs.lemmas.Bool.{cases_lt, cases_eq}
use Rattle.std.proofs.lemmas.Bool.Decides.{nat_tests}
use Rattle.std.proofs.lemmas.Grind.{common_steps}
use Rattle.std.proofs.lemmas.Map.Entries.{length-keys_of}
use Rattle.std.proofs.lemmas.Int.{ints}
use Rattle.cal_dec.specs.Decimals.{Decimal, decimal_of}
use Rattle.cal_dec.specs.Scales.{nano_of, IsBelow, IsBelowScaled}
use Rattle.cal_scan.specs.Names.{same_name}
use Rattle.tdb_expr.specs.declared.factor.Factor.{Factor}
use Rattle.tdb_expr.specs.declared.factor.Factor.TheVariants.{Number, Power, T, LnT, Name}
use Rattle.tdb_expr.specs.declared.product.Product.{Product}
use Rattle.tdb_expr.specs.declared.expression.Expr.{Expr}
use Rattle.tdb_expr.specs.declared.expression.Expr.TheVariants.{Sum as sum_of, Unsupported as Outside}
use Rattle.tdb_expr.specs.declared.ranged.Piece.{Piece}
use Rattle.tdb_expr.specs.declared.ranged.Ranged.{Ranged}
use Rattle.temp_fun.specs.declared.mark.Mark.{Mark}
use Rattle.temp_fun.specs.declared.mark.Mark.TheVariants.{Unvisited, Followed, Done}
use Rattle.temp_fun.specs.declared.fault.EvalFault.{EvalFault}
use Rattle.temp_fun.specs.declared.fault.EvalFault.TheVariants.{Missing, Cycle, Unsupported, TooLarge}
use Rattle.temp_fun.specs.Pieces.{Holds}
use Rattle.temp_fun.specs.Functions.{Functions, place_of, IsFunctionAt, IsAmong, AreFunctions}
use Rattle.tdb_expr.specs.Forms.{IsRanged}
use Rattle.temp_fun.specs.Values.{FactorIs, FactorsAre, ProductsAre, FunctionIs, number, temperature, power, logarithm, the_gas_constant, function, no_factor, no_product, sum, total, product_of, IsSmall, AreSmallSums, IsValue}
use Rattle.temp_fun.specs.Stops.{AreRead, AreNumbers, IsWorth, ExprStops, FactorStops, outside, at_factor, at_product, at_sum, missing, cycle, inside, too_high, IsRefusal}
use Rattle.temp_fun.specs.Outcomes.{SomeOutcome}
use Rattle.temp_fun.specs.Marks.{AreRight, AreFollowed}
use Rattle.temp_fun.specs.Chains.{unvisited}
use Rattle.temp_fun.specs.States.{AreUnvisited}
use Rattle.temp_fun.proofs.Fronts.{take_next, take_all, factors_next, products_next, small_none, small_next}
use Rattle.temp_fun.proofs.Choosing.{function_ranged}
use Rattle.temp_fun.proofs.Parts.{same_at}
use Rattle.temp_fun.proofs.Marking.{right_followed, followed_fresh, followed_more, unvisited_followed, right_first, followed_first}

-- ---- tests

int_lt : (a b : ℤ) → (a <ℤ b) ⊎ (a <ℤ b → ⊥)
int_lt (pos a) (pos b) = elim (cases_lt a b) [ inl less ↦ inl (omega (arith, ints)) | inr more ↦ inr (λ h. omega (arith, ints, h, more)) ]
int_lt (pos a) (negsuc b) = inr (λ h. omega (arith, ints, h))
int_lt (negsuc a) (pos b) = inl (omega (arith, ints))
int_lt (negsuc a) (negsuc b) = elim (cases_lt b a) [ inl less ↦ inl (omega (arith, ints)) | inr more ↦ inr (λ h. omega (arith, ints, h, more)) ]

below_scaled : (n : ℕ) (m e : ℤ) → IsBelowScaled n m e ⊎ (IsBelowScaled n m e → ⊥)
below_scaled n m (pos e) = int_lt _ _
below_scaled n m (negsuc e) = int_lt _ _

below_or_not : (t : ℕ) (d : Decimal) → IsBelow t d ⊎ (IsBelow t d → ⊥)
below_or_not t d = below_scaled t d.mantissa (d.exponent +ℤ pos 2)

small_or_not : (v : ℤ) → IsSmall v ⊎ (IsSmall v → ⊥)
unfolding IsSmall
small_or_not v = elim (cases_lt (10 ^ 27) (unsigned_abs v)) [ inl more ↦ inr (λ h. omega (arith, h, more)) | inr few ↦ inl few ]

is_r : (name : List ℕ) → (name ≡ 82 ∷ []) ⊎ (name ≡ 82 ∷ [] → ⊥)
is_r [] = inr (λ e. cc)
is_r (c ∷ []) = elim (cases_eq c 82) [ inl e ↦ inl (ap (λ (x : ℕ). x ∷ []) e) | inr other ↦ inr (λ e. let same : c ≡ 82 = cc in other same) ]
is_r (c ∷ d ∷ cs) = inr (λ e. cc)

option_case : {X : Type 0} (o : Option X) → (o ≡ None) ⊎ ((x : X) × (o ≡ Some x))
option_case None = inl refl
option_case (Some x) = inr (x, refl)

get_within : {X : Type 0} (xs : List X) (k : ℕ) → k < length xs → (x : X) × (slice_get xs k ≡ Some x)
get_within [] k h = absurd (omega (arith, h))
get_within (x ∷ xs) zero h = (x, refl)
get_within (x ∷ xs) (suc k) h = get_within xs k (omega (arith, h))

place_within : (f : Functions) (name : List ℕ) (k : ℕ) → place_of f name ≡ Some k → k < length f
unfolding place_of
place_within f name k e =
    elim (cases_lt (position_or_len (same_name name) (keys_of f)) (length (keys_of f))) [
      | inl less ↦ grind (arith, common_steps, nat_tests, length-keys_of f)
      | inr more ↦ grind (arith, common_steps, nat_tests, length-keys_of f)
    ]

-- ---- what is read of an expression

-- its value
record Has (f : Functions) (t : ℕ) (expr : Expr) : Type 0 where
  pub products : List Product
  pub values : List ℤ
  pub height : ℕ
  pub expr_is : expr ≡ sum_of products
  pub valued : ProductsAre f t products values height
  pub small : AreSmallSums values

abbrev Outcome : Functions → ℕ → List ℕ → ℕ → Expr → Type 0
Outcome f t followed line expr = Has f t expr ⊎ ((fault : EvalFault) × ExprStops f t followed line expr fault)

-- what is known where at least this many functions are followed
abbrev Known : Functions → ℕ → ℕ → Type 0
Known f t n = (marks : List Mark) (followed : List ℕ) (line : ℕ) (expr : Expr) → AreRight f t marks → AreFollowed marks followed → unvisited marks < n → Outcome f t followed line expr

abbrev FactorOutcome : Functions → ℕ → List ℕ → ℕ → Factor → Type 0
FactorOutcome f t followed line x = ((d : Decimal) × (m : ℕ) × FactorIs f t x d m) ⊎ ((fault : EvalFault) × FactorStops f t followed line x fault)

-- the piece that holds
first_piece : (t : ℕ) (pieces : List Piece) (m i : ℕ) → i + suc m ≡ length pieces → ((k : ℕ) (other : Piece) → k < i → slice_get pieces k ≡ Some other → IsBelow t (decimal_of other.high) → ⊥) → (expr : Expr) × Holds t pieces expr
first_piece t pieces zero i e earlier =
    let p = get_within pieces i (omega (arith, e)) in
    (p.0.expr, record { place = i; piece = p.0; stands = p.1; expr_is = refl; earlier = earlier; here = inr (omega (arith, e)) })
first_piece t pieces (suc m) i e earlier =
    let p = get_within pieces i (omega (arith, e)) in
    elim (below_or_not t (decimal_of p.0.high)) [
      | inl below ↦ (p.0.expr, record { place = i; piece = p.0; stands = p.1; expr_is = refl; earlier = earlier; here = inl below })
      | inr above ↦ first_piece t pieces m (i + 1) (omega (arith, e)) (later p.0 p.1 above)
    ]
  where
    later : (piece : Piece) → slice_get pieces i ≡ Some piece → (IsBelow t (decimal_of piece.high) → ⊥) → (k : ℕ) (other : Piece) → k < i + 1 → slice_get pieces k ≡ Some other → IsBelow t (decimal_of other.high) → ⊥
    later piece stands above k other less is below = elim (cases_lt k i) [
      | inl before ↦ earlier k other before is below
      | inr not_before ↦ above (subst (λ (q : Piece). IsBelow t (decimal_of q.high)) (same_at pieces k i other piece (omega arith) is stands) below)
    ]

holding : (t : ℕ) (pieces : List Piece) → 0 < length pieces → (expr : Expr) × Holds t pieces expr
holding t pieces some = at_least t pieces (length pieces) refl some
  where
    at_least : (t : ℕ) (pieces : List Piece) (n : ℕ) → length pieces ≡ n → 0 < length pieces → (expr : Expr) × Holds t pieces expr
    at_least t pieces zero e some = absurd (omega (arith, e))
    at_least t pieces (suc m) e some = first_piece t pieces m 0 (omega (arith, e)) (λ k other less. absurd (omega (arith, less)))

-- a function that has a value, as a factor
high_or_low : (f : Functions) (t : ℕ) (followed : List ℕ) (line : ℕ) (name : List ℕ) (place : ℕ) (v : ℤ) (h : ℕ) → place_of f name ≡ Some place → FunctionIs f t place v h → FactorOutcome f t followed line (Name name)
high_or_low f t followed line name place v h at is = elim (cases_lt 64 h) [
  | inl high ↦ inr (Unsupported line, too_high followed line name place v h at is high)
  | inr low ↦ inl (_, h, function name place v h at is low)
]

-- a function that was not visited
visited : (f : Functions) (t : ℕ) (followed : List ℕ) (line : ℕ) (name : List ℕ) (place : ℕ) (ranged : Ranged) (expr : Expr) → place_of f name ≡ Some place → (IsAmong place followed → ⊥) → IsFunctionAt f place ranged → Holds t ranged.pieces expr →
    Outcome f t (place ∷ followed) ranged.line expr → FactorOutcome f t followed line (Name name)
visited f t followed line name place ranged expr at fresh here holds (inl has) =
    high_or_low f t followed line name place (total has.values) (suc has.height) at (sum place ranged has.products has.values has.height here (subst (λ (e : Expr). Holds t ranged.pieces e) has.expr_is holds) has.valued has.small)
visited f t followed line name place ranged expr at fresh here holds (inr stops) = inr (stops.0, inside followed line name place ranged expr stops.0 at fresh here holds stops.1)

by_mark : (f : Functions) (t n : ℕ) → AreFunctions f → Known f t n → (marks : List Mark) (followed : List ℕ) (line : ℕ) → AreRight f t marks → AreFollowed marks followed → unvisited marks < suc n →
    (name : List ℕ) (place : ℕ) (mark : Mark) → place_of f name ≡ Some place → slice_get marks place ≡ Some mark → FactorOutcome f t followed line (Name name)
by_mark f t n all known marks followed line right are few name place Followed at is = inr (Cycle line, cycle followed line name place at (are.only place is))
by_mark f t n all known marks followed line right are few name place (Done v h) at is = high_or_low f t followed line name place v h at (right.done place v h is)
by_mark f t n all known marks followed line right are few name place Unvisited at is =
    let here = get_within f place (place_within f name place at) in
    let function_here : IsFunctionAt f place here.0.1 = (here.0.0, here.1) in
    let chosen = holding t here.0.1.pieces (function_ranged f place here.0.1 all function_here).least in
    visited f t followed line name place here.0.1 chosen.0 at (followed_fresh marks place followed is are) function_here chosen.1
    (known (set marks place Followed) (place ∷ followed) here.0.1.line chosen.0 (right_followed f t marks place is right) (followed_more marks place followed is are) (omega (arith, unvisited_followed marks place is, few)))

factor_outcome : (f : Functions) (t n : ℕ) → AreFunctions f → Known f t n → (marks : List Mark) (followed : List ℕ) (line : ℕ) → AreRight f t marks → AreFollowed marks followed → unvisited marks < suc n → (x : Factor) → FactorOutcome f t followed line x
factor_outcome f t n all known marks followed line right are few (Number d) = inl (decimal_of d, 0, number d)
factor_outcome f t n all known marks followed line right are few T = inl (_, 0, temperature)
factor_outcome f t n all known marks followed line right are few (Power p) = inl (_, 0, power p)
factor_outcome f t n all known marks followed line right are few LnT = inl (_, 0, logarithm)
factor_outcome f t n all known marks followed line right are few (Name name) = elim (option_case (place_of f name)) [
  | inl none ↦ elim (is_r name) [
    | inl r ↦ inl (_, 0, the_gas_constant name none r)
    | inr other ↦ inr (Missing line, missing followed line name none other)
  ]
  | inr found ↦
      let mark = get_within marks found.0 (omega (arith, right.size, place_within f name found.0 found.1)) in
      by_mark f t n all known marks followed line right are few name found.0 mark.0 found.1 mark.1
]

-- the first factor that stops a product, or all their numbers
factors_outcome : (f : Functions) (t : ℕ) (followed : List ℕ) (line : ℕ) (xs : List Factor) → ((x : Factor) → FactorOutcome f t followed line x) → (m j : ℕ) → j + m ≡ length xs → (ds : List Decimal) (h : ℕ) → FactorsAre f t (take j xs) ds h →
    ((es : List Decimal) × (k : ℕ) × FactorsAre f t xs es k) ⊎ ((i : ℕ) × (x : Factor) × (fault : EvalFault) × AreNumbers f t xs i x × FactorStops f t followed line x fault)
factors_outcome f t followed line xs each zero j e ds h are = inl (ds, h, subst (λ (ys : List Factor). FactorsAre f t ys ds h) (take_all xs j (omega (arith, e))) are)
factors_outcome f t followed line xs each (suc m) j e ds h are =
    let x = get_within xs j (omega (arith, e)) in
    elim (each x.0) [
      | inl is ↦ factors_outcome f t followed line xs each m (j + 1) (omega (arith, e)) (ds ++ is.0 ∷ []) (max h is.1)
          (subst (λ (ys : List Factor). FactorsAre f t ys (ds ++ is.0 ∷ []) (max h is.1)) (sym (take_next xs j x.0 x.1)) (factors_next f t (take j xs) ds h x.0 is.0 is.1 are is.2))
      | inr stops ↦ inr (j, x.0, stops.0, record { stands = x.1; numbers = ds; height = h; valued = are }, stops.1)
    ]

-- the first product that stops a sum, or all their values
products_outcome : (f : Functions) (t : ℕ) (followed : List ℕ) (line : ℕ) (ps : List Product) → ((x : Factor) → FactorOutcome f t followed line x) → (m k : ℕ) → k + m ≡ length ps → (vs : List ℤ) (h : ℕ) → ProductsAre f t (take k ps) vs h → AreSmallSums vs → Outcome f t followed line (sum_of ps)
products_outcome f t followed line ps each zero k e vs h are small =
    inl (record { products = ps; values = vs; height = h; expr_is = refl; valued = subst (λ (qs : List Product). ProductsAre f t qs vs h) (take_all ps k (omega (arith, e))) are; small = small })
products_outcome f t followed line ps each (suc m) k e vs h are small =
    let p = get_within ps k (omega (arith, e)) in
    let read : AreRead f t ps k p.0 vs = record { stands = p.1; height = h; valued = are; small = small } in
    elim (factors_outcome f t followed line p.0.factors each (length p.0.factors) 0 (omega arith) [] 0 (none p.0.factors)) [
      | inr stops ↦ inr (stops.2, at_factor followed line ps k p.0 vs stops.0 stops.1 stops.2 read stops.3 stops.4)
      | inl is ↦
          let v : ℤ = nano_of (product_of p.0.negative is.0) in
          let worth : IsWorth f t p.0 v = record { numbers = is.0; height = is.1; valued = is.2; nano = refl } in
          elim (small_or_not v) [
            | inr large ↦ inr (TooLarge line, at_product followed line ps k p.0 vs v read worth large)
            | inl fine ↦ elim (small_or_not (total vs +ℤ v)) [
              | inr large ↦ inr (TooLarge line, at_sum followed line ps k p.0 vs v read worth fine large)
              | inl low ↦ products_outcome f t followed line ps each m (k + 1) (omega (arith, e)) (vs ++ v ∷ []) (max h is.1)
                  (subst (λ (qs : List Product). ProductsAre f t qs (vs ++ v ∷ []) (max h is.1)) (sym (take_next ps k p.0 p.1)) (products_next f t (take k ps) vs h p.0 is.0 is.1 are is.2 fine))
                  (small_next vs v small low)
            ]
          ]
    ]
  where
    none : (xs : List Factor) → FactorsAre f t (take 0 xs) [] 0
    none xs = no_factor

outcome : (f : Functions) (t : ℕ) → AreFunctions f → (n : ℕ) → Known f t n
outcome f t all zero marks followed line expr right are few = absurd (omega (arith, few))
outcome f t all (suc n) marks followed line Outside right are few = inr (Unsupported line, outside followed line)
outcome f t all (suc n) marks followed line (sum_of ps) right are few =
    products_outcome f t followed line ps (factor_outcome f t n all (outcome f t all n) marks followed line right are few) (length ps) 0 (omega arith) [] 0 no_product small_none

-- the marks of functions that were not visited
first_marks : Functions → List Mark
first_marks [] = []
first_marks (x ∷ f) = Unvisited ∷ first_marks f

first_size : (f : Functions) → length (first_marks f) ≡ length f
unfolding first_marks
first_size [] = refl
first_size (x ∷ f) = ap suc (first_size f)

first_each : (f : Functions) (k : ℕ) (mark : Mark) → slice_get (first_marks f) k ≡ Some mark → mark ≡ Unvisited
unfolding first_marks
first_each [] k mark e = absurd (cc)
first_each (x ∷ f) zero mark e = cc
first_each (x ∷ f) (suc k) mark e = first_each f k mark e

pub has_outcome : (f : Functions) (t : ℕ) (ranged : Ranged) → AreFunctions f → IsRanged ranged → SomeOutcome f t ranged
has_outcome f t ranged all fine =
    let chosen = holding t ranged.pieces fine.least in
    let marks : List Mark = first_marks f in
    let first : AreUnvisited (length f) marks = record { size = first_size f; each = first_each f } in
    elim (outcome f t all (suc (unvisited marks)) marks [] ranged.line chosen.0 (right_first f t (length f) marks refl first) (followed_first (length f) marks first) (omega arith)) [
      | inl has ↦ inl (total has.values, record { products = has.products; values = has.values; height = has.height; holds = subst (λ (e : Expr). Holds t ranged.pieces e) has.expr_is chosen.1; valued = has.valued; small = has.small; sum_is = refl })
      | inr stops ↦ inr (stops.0, record { expr = chosen.0; holds = chosen.1; stops = stops.1 })
    ]
