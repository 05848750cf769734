-- The value of an expression at a temperature, where its reading does not stop.
use Rattle.std.specs.Prelude.{◌≡◌, ℕ, suc, ◌≤◌, ◌^◌, max, List, [], ◌∷◌, codes, Some, None, Bool, true, false, ℤ, pos, negsuc, ◌+ℤ◌, ◌-ℤ◌, unsigned_abs, fold, take}
use Rattle.cal_limits.specs.declared.TheConstants.{GAS_CONSTANT}
use Rattle.cal_math.specs.Logarithm.{log_of}
use Rattle.cal_dec.specs.declared.dec.Dec.{Dec}
use Rattle.cal_dec.specs.Decimals.{Decimal, decimal_of, trimmed}
use Rattle.cal_dec.specs.Products.{product, power_of}
use Rattle.cal_dec.specs.Scales.{nano_of}
use Rattle.tdb_expr.specs.declared.factor.Factor.{Factor}
use Rattle.tdb_expr.specs.declared.factor.Factor.TheVariants.{Number, Power, T, LnT, Name}
use Rattle.tdb_expr.specs.declared.product.Product.{Product}
use Rattle.tdb_expr.specs.declared.expression.Expr.TheVariants.{Sum}
use Rattle.tdb_expr.specs.declared.ranged.Ranged.{Ranged}
use Rattle.temp_fun.specs.Pieces.{Holds}
use Rattle.temp_fun.specs.Functions.{Functions, place_of, IsFunctionAt}

abbrev pub decimal : ℤ → ℤ → Decimal
decimal mantissa exponent = record { mantissa = mantissa; exponent = exponent }

-- t hundredths of a kelvin
abbrev pub kelvin : ℕ → Decimal
kelvin t = decimal (pos t) (negsuc 1)

-- ln T = L(t) - L(100), in units of 10^-15
unfoldable pub log_kelvin : ℕ → Decimal
log_kelvin t = decimal (pos (log_of t) -ℤ pos (log_of 100)) (negsuc 14)

-- R = 8.31451 J/(mol K)
abbrev pub gas_constant : Decimal
gas_constant = decimal (pos GAS_CONSTANT) (negsuc 4)

-- a value in nano, as a factor
abbrev pub from_nano : ℤ → Decimal
from_nano v = trimmed v (negsuc 8)

abbrev pub one : Bool → Decimal
one false = decimal (pos 1) (pos 0)
one true = decimal (negsuc 0) (pos 0)

-- the product of 1 or -1 and the factors in their order
unfoldable pub product_of : Bool → List Decimal → Decimal
product_of negative factors = fold product (one negative) factors

-- the sum of the values of products
unfoldable pub total : List ℤ → ℤ
total values = fold ◌+ℤ◌ (pos 0) values

-- a magnitude of at most 10^27 nano
unfoldable pub IsSmall : ℤ → Type 0
IsSmall v = unsigned_abs v ≤ 10 ^ 27

-- the sum of the first n values is small, for each n
unfoldable pub AreSmallSums : List ℤ → Type 0
AreSmallSums values = (n : ℕ) → IsSmall (total (take n values))

-- At t, with the greatest height of the functions that are named, or 0 where there is none:
mutual
  -- a factor is this number
  pub data FactorIs (f : Functions) (t : ℕ) : Factor → Decimal → ℕ → Type 0 where
    number : (d : Dec) → FactorIs f t (Number d) (decimal_of d) 0
    temperature : FactorIs f t T (kelvin t) 0
    power : (n : ℤ) → FactorIs f t (Power n) (power_of (kelvin t) n) 0
    logarithm : FactorIs f t LnT (log_kelvin t) 0
    -- R, where no function has this name
    the_gas_constant : (name : List ℕ) → place_of f name ≡ None → name ≡ codes "R" → FactorIs f t (Name name) gas_constant 0
    -- the value of the function of this name
    function : (name : List ℕ) (place : ℕ) (v : ℤ) (h : ℕ) → place_of f name ≡ Some place → FunctionIs f t place v h → h ≤ 64 →
        FactorIs f t (Name name) (from_nano v) h

  -- factors are these numbers
  pub data FactorsAre (f : Functions) (t : ℕ) : List Factor → List Decimal → ℕ → Type 0 where
    no_factor : FactorsAre f t [] [] 0
    factor : (x : Factor) (xs : List Factor) (d : Decimal) (ds : List Decimal) (h k : ℕ) → FactorIs f t x d h →
        FactorsAre f t xs ds k → FactorsAre f t (x ∷ xs) (d ∷ ds) (max h k)

  -- products have these values in nano
  pub data ProductsAre (f : Functions) (t : ℕ) : List Product → List ℤ → ℕ → Type 0 where
    no_product : ProductsAre f t [] [] 0
    one_more : (p : Product) (ps : List Product) (ds : List Decimal) (vs : List ℤ) (h k : ℕ) → FactorsAre f t p.factors ds h →
        IsSmall (nano_of (product_of p.negative ds)) → ProductsAre f t ps vs k →
        ProductsAre f t (p ∷ ps) (nano_of (product_of p.negative ds) ∷ vs) (max h k)

  -- the function at a place has this value and this height
  pub data FunctionIs (f : Functions) (t : ℕ) : ℕ → ℤ → ℕ → Type 0 where
    sum : (place : ℕ) (ranged : Ranged) (products : List Product) (vs : List ℤ) (h : ℕ) → IsFunctionAt f place ranged →
        Holds t ranged.pieces (Sum products) → ProductsAre f t products vs h → AreSmallSums vs → FunctionIs f t place (total vs) (suc h)

-- the value of a ranged text
pub record IsValue (f : Functions) (t : ℕ) (ranged : Ranged) (v : ℤ) : Type 0 where
  pub products : List Product
  pub values : List ℤ
  pub height : ℕ
  pub holds : Holds t ranged.pieces (Sum products)
  pub valued : ProductsAre f t products values height
  pub small : AreSmallSums values
  pub sum_is : v ≡ total values
