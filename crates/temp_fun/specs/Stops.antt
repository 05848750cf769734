-- Where the reading of an expression stops: in written order, at the first place before which all has a value.
use Rattle.std.specs.Prelude.{◌≡◌, ◌≢◌, ℕ, ◌<◌, List, [], ◌∷◌, codes, Some, None, Result, Ok, Err, ℤ, ◌+ℤ◌, slice_get, take}
use Rattle.cal_dec.specs.Decimals.{Decimal}
use Rattle.cal_dec.specs.Scales.{nano_of}
use Rattle.tdb_expr.specs.declared.factor.Factor.{Factor}
use Rattle.tdb_expr.specs.declared.factor.Factor.TheVariants.{Name}
use Rattle.tdb_expr.specs.declared.product.Product.{Product}
use Rattle.tdb_expr.specs.declared.expression.Expr.{Expr}
use Rattle.tdb_expr.specs.declared.expression.Expr.TheVariants.{Sum, Unsupported as Outside}
use Rattle.tdb_expr.specs.declared.ranged.Ranged.{Ranged}
use Rattle.temp_fun.specs.declared.fault.EvalFault.{EvalFault}
use Rattle.temp_fun.specs.declared.fault.EvalFault.TheVariants.{Missing, Cycle, Unsupported, TooLarge, Memory}
use Rattle.temp_fun.specs.Pieces.{Holds}
use Rattle.temp_fun.specs.Functions.{Functions, place_of, IsFunctionAt, IsAmong}
use Rattle.temp_fun.specs.Values.{FactorsAre, ProductsAre, FunctionIs, IsValue, product_of, total, IsSmall, AreSmallSums}

-- the first k products have values
pub record AreRead (f : Functions) (t : ℕ) (products : List Product) (k : ℕ) (p : Product) (values : List ℤ) : Type 0 where
  pub stands : slice_get products k ≡ Some p
  pub height : ℕ
  pub valued : ProductsAre f t (take k products) values height
  pub small : AreSmallSums values

-- the first j factors of a product are numbers
pub record AreNumbers (f : Functions) (t : ℕ) (factors : List Factor) (j : ℕ) (x : Factor) : Type 0 where
  pub stands : slice_get factors j ≡ Some x
  pub numbers : List Decimal
  pub height : ℕ
  pub valued : FactorsAre f t (take j factors) numbers height

-- all factors of a product are numbers, and their product is v nano
pub record IsWorth (f : Functions) (t : ℕ) (p : Product) (v : ℤ) : Type 0 where
  pub numbers : List Decimal
  pub height : ℕ
  pub valued : FactorsAre f t p.factors numbers height
  pub nano : v ≡ nano_of (product_of p.negative numbers)

-- While the functions at the places `followed` are being followed, in a command at a line:
mutual
  -- an expression stops with a fault
  pub data ExprStops (f : Functions) (t : ℕ) : List ℕ → ℕ → Expr → EvalFault → Type 0 where
    -- it is none of the grammar
    outside : (followed : List ℕ) (line : ℕ) → ExprStops f t followed line Outside (Unsupported line)
    -- at a factor of a product
    at_factor : (followed : List ℕ) (line : ℕ) (products : List Product) (k : ℕ) (p : Product) (values : List ℤ) (j : ℕ) (x : Factor)
        (fault : EvalFault) → AreRead f t products k p values → AreNumbers f t p.factors j x → FactorStops f t followed line x fault →
        ExprStops f t followed line (Sum products) fault
    -- at a product that is too large
    at_product : (followed : List ℕ) (line : ℕ) (products : List Product) (k : ℕ) (p : Product) (values : List ℤ) (v : ℤ) →
        AreRead f t products k p values → IsWorth f t p v → (IsSmall v → ⊥) →
        ExprStops f t followed line (Sum products) (TooLarge line)
    -- at a product with which the sum is too large
    at_sum : (followed : List ℕ) (line : ℕ) (products : List Product) (k : ℕ) (p : Product) (values : List ℤ) (v : ℤ) →
        AreRead f t products k p values → IsWorth f t p v → IsSmall v → (IsSmall (total values +ℤ v) → ⊥) →
        ExprStops f t followed line (Sum products) (TooLarge line)

  -- a factor stops it
  pub data FactorStops (f : Functions) (t : ℕ) : List ℕ → ℕ → Factor → EvalFault → Type 0 where
    -- the name of no function
    missing : (followed : List ℕ) (line : ℕ) (name : List ℕ) → place_of f name ≡ None → name ≢ codes "R" →
        FactorStops f t followed line (Name name) (Missing line)
    -- the name of a function that is being followed
    cycle : (followed : List ℕ) (line : ℕ) (name : List ℕ) (place : ℕ) → place_of f name ≡ Some place → IsAmong place followed →
        FactorStops f t followed line (Name name) (Cycle line)
    -- the name of a function in which the reading stops
    inside : (followed : List ℕ) (line : ℕ) (name : List ℕ) (place : ℕ) (ranged : Ranged) (expr : Expr) (fault : EvalFault) →
        place_of f name ≡ Some place → (IsAmong place followed → ⊥) → IsFunctionAt f place ranged → Holds t ranged.pieces expr →
        ExprStops f t (place ∷ followed) ranged.line expr fault → FactorStops f t followed line (Name name) fault
    -- the name of a function that has a value, and is too high
    too_high : (followed : List ℕ) (line : ℕ) (name : List ℕ) (place : ℕ) (v : ℤ) (h : ℕ) → place_of f name ≡ Some place →
        FunctionIs f t place v h → 64 < h → FactorStops f t followed line (Name name) (Unsupported line)

-- the first refusal of a ranged text
pub record IsRefusal (f : Functions) (t : ℕ) (ranged : Ranged) (fault : EvalFault) : Type 0 where
  pub expr : Expr
  pub holds : Holds t ranged.pieces expr
  pub stops : ExprStops f t [] ranged.line expr fault

-- what the value of a ranged text at t is, or why there is none; want of memory says nothing
abbrev pub IsAnswer : Functions → ℕ → Ranged → Result ℤ EvalFault → Type 0
IsAnswer f t ranged (Ok v) = IsValue f t ranged v
IsAnswer f t ranged (Err Memory) = Unit {0}
IsAnswer f t ranged (Err (Missing line)) = IsRefusal f t ranged (Missing line)
IsAnswer f t ranged (Err (Cycle line)) = IsRefusal f t ranged (Cycle line)
IsAnswer f t ranged (Err (Unsupported line)) = IsRefusal f t ranged (Unsupported line)
IsAnswer f t ranged (Err (TooLarge line)) = IsRefusal f t ranged (TooLarge line)
