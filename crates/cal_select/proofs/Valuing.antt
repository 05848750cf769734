-- Each ranged text that a database can have has an outcome at a temperature, so there is a function that gives it.
use Rattle.std.proofs.Common.{◌≡◌, ℕ, zero, suc, List, [], ◌∷◌, length, Bool, true, false, refl, subst, inl, inr}
use Rattle.std.specs.Prelude.{◌&&◌, nat_le, nat_lt, Some, slice_get, unsigned_abs, Ok, Err}
use Rattle.std.specs.List.{AllByRecursion, list_all}
use Rattle.std.proofs.lemmas.Bool.{and_parts, and_from, leb-true, le-leb, ltb-true, lt-ltb}
use Rattle.tdb_expr.specs.declared.factor.Factor.{Factor}
use Rattle.tdb_expr.specs.declared.factor.Factor.TheVariants.{Number, T, Power, LnT, Name}
use Rattle.tdb_expr.specs.declared.product.Product.{Product}
use Rattle.tdb_expr.specs.declared.expression.Expr.{Expr}
use Rattle.tdb_expr.specs.declared.expression.Expr.TheVariants.{Sum, Unsupported}
use Rattle.tdb_expr.specs.declared.ranged.Piece.{Piece}
use Rattle.tdb_expr.specs.declared.ranged.Ranged.{Ranged}
use Rattle.tdb_expr.specs.Forms.{IsFactor, IsProduct, IsExpr, IsPiece, IsRanged}
use Rattle.tdb_read.specs.Sound.{IsName}
use Rattle.temp_fun.specs.declared.fault.EvalFault.TheVariants.{Memory}
use Rattle.temp_fun.specs.Functions.{Functions, AreFunctions}
use Rattle.temp_fun.specs.Outcomes.{SomeOutcome}
use Rattle.cal_select.specs.Valuations.{Outcome, Valuation, IsOutcome, AreOutcomes}

-- ---- the forms as tests

pub each_passes : {X : Type 0} (P : X → Type 0) (test : X → Bool) (xs : List X) → ((x : X) → P x → test x ≡ true) → ((k : ℕ) (x : X) → slice_get xs k ≡ Some x → P x) → list_all test xs ≡ true
each_passes P test [] passes each = refl
each_passes P test (x ∷ xs) passes each =
    and_from (test x) (list_all test xs) (passes x (each 0 x refl)) (each_passes P test xs passes (λ k y is. each (suc k) y is))

pub passes_each : {X : Type 0} (P : X → Type 0) (test : X → Bool) (xs : List X) → ((x : X) → test x ≡ true → P x) → list_all test xs ≡ true → (k : ℕ) (x : X) → slice_get xs k ≡ Some x → P x
passes_each P test [] sound all k x is = absurd cc
passes_each {X = X} P test (y ∷ ys) sound all zero x is =
    let same : y ≡ x = cc in
    subst (λ (z : X). P z) same (sound y (and_parts (test y) (list_all test ys) all).0)
passes_each P test (y ∷ ys) sound all (suc k) x is = passes_each P test ys sound (and_parts (test y) (list_all test ys) all).1 k x is

is_factor : Factor → Bool
is_factor (Number d) = nat_le (unsigned_abs d.exponent) 200
is_factor (Power n) = nat_le (unsigned_abs n) 20
is_factor T = true
is_factor LnT = true
is_factor (Name name) = true

factor_passes : (x : Factor) → IsFactor x → is_factor x ≡ true
unfolding is_factor
factor_passes (Number d) is = le-leb (unsigned_abs d.exponent) 200 is
factor_passes (Power n) is = le-leb (unsigned_abs n) 20 is
factor_passes T is = refl
factor_passes LnT is = refl
factor_passes (Name name) is = refl

passes_factor : (x : Factor) → is_factor x ≡ true → IsFactor x
unfolding is_factor
passes_factor (Number d) on = leb-true (unsigned_abs d.exponent) 200 on
passes_factor (Power n) on = leb-true (unsigned_abs n) 20 on
passes_factor T on = tt
passes_factor LnT on = tt
passes_factor (Name name) on = tt

is_product : Product → Bool
is_product p = nat_lt 0 (length p.factors) && (nat_le (length p.factors) 16 && list_all is_factor p.factors)

product_passes : (p : Product) → IsProduct p → is_product p ≡ true
unfolding is_product
product_passes p is =
    and_from (nat_lt 0 (length p.factors)) (nat_le (length p.factors) 16 && list_all is_factor p.factors) (lt-ltb 0 (length p.factors) is.least)
    (and_from (nat_le (length p.factors) 16) (list_all is_factor p.factors) (le-leb (length p.factors) 16 is.most) (each_passes IsFactor is_factor p.factors factor_passes is.factors))

passes_product : (p : Product) → is_product p ≡ true → IsProduct p
unfolding is_product
passes_product p on =
    let first = and_parts (nat_lt 0 (length p.factors)) (nat_le (length p.factors) 16 && list_all is_factor p.factors) on in
    let second = and_parts (nat_le (length p.factors) 16) (list_all is_factor p.factors) first.1 in
    record { least = ltb-true 0 (length p.factors) first.0; most = leb-true (length p.factors) 16 second.0; factors = passes_each IsFactor is_factor p.factors passes_factor second.1 }

is_expr : Expr → Bool
is_expr (Sum products) = nat_lt 0 (length products) && list_all is_product products
is_expr Unsupported = true

expr_passes : (e : Expr) → IsExpr e → is_expr e ≡ true
unfolding is_expr
expr_passes (Sum products) is =
    and_from (nat_lt 0 (length products)) (list_all is_product products) (lt-ltb 0 (length products) is.least) (each_passes IsProduct is_product products product_passes is.each)
expr_passes Unsupported is = refl

passes_expr : (e : Expr) → is_expr e ≡ true → IsExpr e
unfolding is_expr
passes_expr (Sum products) on =
    let parts = and_parts (nat_lt 0 (length products)) (list_all is_product products) on in
    record { least = ltb-true 0 (length products) parts.0; each = passes_each IsProduct is_product products passes_product parts.1 }
passes_expr Unsupported on = tt

is_piece : Piece → Bool
is_piece piece = nat_le (unsigned_abs piece.high.exponent) 200 && is_expr piece.expr

piece_passes : (piece : Piece) → IsPiece piece → is_piece piece ≡ true
unfolding is_piece
piece_passes piece is =
    and_from (nat_le (unsigned_abs piece.high.exponent) 200) (is_expr piece.expr) (le-leb (unsigned_abs piece.high.exponent) 200 is.high) (expr_passes piece.expr is.expr)

passes_piece : (piece : Piece) → is_piece piece ≡ true → IsPiece piece
unfolding is_piece
passes_piece piece on =
    let parts = and_parts (nat_le (unsigned_abs piece.high.exponent) 200) (is_expr piece.expr) on in
    record { high = leb-true (unsigned_abs piece.high.exponent) 200 parts.0; expr = passes_expr piece.expr parts.1 }

pub is_ranged : Ranged → Bool
is_ranged ranged = nat_lt 0 (length ranged.pieces) && list_all is_piece ranged.pieces

ranged_passes : (ranged : Ranged) → IsRanged ranged → is_ranged ranged ≡ true
unfolding is_ranged
ranged_passes ranged is =
    and_from (nat_lt 0 (length ranged.pieces)) (list_all is_piece ranged.pieces) (lt-ltb 0 (length ranged.pieces) is.least) (each_passes IsPiece is_piece ranged.pieces piece_passes is.pieces)

passes_ranged : (ranged : Ranged) → is_ranged ranged ≡ true → IsRanged ranged
unfolding is_ranged
passes_ranged ranged on =
    let parts = and_parts (nat_lt 0 (length ranged.pieces)) (list_all is_piece ranged.pieces) on in
    record { least = ltb-true 0 (length ranged.pieces) parts.0; pieces = passes_each IsPiece is_piece ranged.pieces passes_piece parts.1 }

-- ---- an outcome for each

-- an outcome of a text that passes
abbrev pub Valued : Functions → ℕ → Ranged → Type 0
Valued f t ranged = (o : Outcome) × (is_ranged ranged ≡ true → IsOutcome f t ranged o)

valued : (f : Functions) (t : ℕ) (ranged : Ranged) → (IsRanged ranged → SomeOutcome f t ranged) → Valued f t ranged
valued f t ranged law = by_test (is_ranged ranged) refl
  where
    by_outcome : SomeOutcome f t ranged → Valued f t ranged
    by_outcome (inl value) = (Ok value.0, λ on. value.1)
    by_outcome (inr refusal) = (Err refusal.0, λ on. refusal.1)

    by_test : (b : Bool) → is_ranged ranged ≡ b → Valued f t ranged
    by_test true on = by_outcome (law (passes_ranged ranged on))
    by_test false off = (Err Memory, λ on. absurd (cc (on, off)))

-- there is a valuation
pub a_valuation : (f : Functions) (t : ℕ) → ((ranged : Ranged) → IsRanged ranged → SomeOutcome f t ranged) → (outcome : Valuation) × AreOutcomes f t outcome
a_valuation f t law = (
  λ ranged. (valued f t ranged (law ranged)).0,
  record { each = λ ranged is. (valued f t ranged (law ranged)).1 (ranged_passes ranged is) },
)

-- the functions of a database are such texts
pub ranged_functions : (f : Functions) → AllByRecursion (λ e. IsName e.0 × IsRanged e.1) f → AreFunctions f
ranged_functions [] all = tt
ranged_functions (entry ∷ f) all = (all.0.1, ranged_functions f all.1)
