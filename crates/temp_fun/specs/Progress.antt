-- How far the reading of an expression has come.
use Rattle.std.specs.Prelude.{◌≡◌, ℕ, ◌≤◌, ◌+◌, ◌*◌, max, length, List, Some, Result, Ok, Err, ℤ, ◌+ℤ◌, slice_get, take, unsigned_abs, ◌⊎◌}
use Rattle.cal_dec.specs.Decimals.{Decimal, decimal_of}
use Rattle.cal_dec.specs.declared.dec.Dec.{Dec}
use Rattle.cal_dec.specs.Products.{product}
use Rattle.cal_dec.specs.Scales.{nano_of}
use Rattle.tdb_expr.specs.declared.factor.Factor.{Factor}
use Rattle.tdb_expr.specs.declared.factor.Factor.TheVariants.{Name}
use Rattle.tdb_expr.specs.declared.product.Product.{Product}
use Rattle.tdb_expr.specs.declared.expression.Expr.{Expr}
use Rattle.tdb_expr.specs.declared.expression.Expr.TheVariants.{Sum as sum_of}
use Rattle.tdb_expr.specs.declared.ranged.Ranged.{Ranged}
use Rattle.temp_fun.specs.declared.mark.Mark.{Mark}
use Rattle.temp_fun.specs.declared.mark.Mark.TheVariants.{Unvisited}
use Rattle.temp_fun.specs.declared.partial.Partial.{Partial}
use Rattle.temp_fun.specs.declared.partial.Sum.{Sum}
use Rattle.temp_fun.specs.declared.partial.Progress.{Progress}
use Rattle.temp_fun.specs.declared.partial.Progress.TheVariants.{Whole, Waits}
use Rattle.temp_fun.specs.declared.waiting.Waiting.{Waiting}
use Rattle.temp_fun.specs.declared.waiting.Turn.{Turn}
use Rattle.temp_fun.specs.declared.waiting.Turn.TheVariants.{Ended, Needs}
use Rattle.temp_fun.specs.declared.fault.EvalFault.{EvalFault}
use Rattle.temp_fun.specs.declared.fault.EvalFault.TheVariants.{TooLarge}
use Rattle.temp_fun.specs.Pieces.{Holds}
use Rattle.temp_fun.specs.Functions.{Functions, place_of}
use Rattle.temp_fun.specs.Values.{FactorsAre, ProductsAre, product_of, total, IsSmall, AreSmallSums}
use Rattle.temp_fun.specs.Stops.{AreNumbers, FactorStops, ExprStops}
use Rattle.temp_fun.specs.Marks.{AreFollowed, WaitsFor}

-- the first j factors of a product are numbers whose product is `number`
pub record IsPartial (f : Functions) (t : ℕ) (p : Product) (j : ℕ) (partial : Partial) : Type 0 where
  pub numbers : List Decimal
  pub valued : FactorsAre f t (take j p.factors) numbers partial.height
  pub number_is : decimal_of partial.number ≡ product_of p.negative numbers
  pub modest : unsigned_abs partial.number.exponent ≤ 400 * j

-- a further factor
pub record IsTimes (partial : Partial) (number : Dec) (height : ℕ) (after : Partial) : Type 0 where
  pub number_is : decimal_of after.number ≡ product (decimal_of partial.number) (decimal_of number)
  pub height_is : after.height ≡ max partial.height height
  pub modest : unsigned_abs after.number.exponent ≤ unsigned_abs partial.number.exponent + 400

-- all factors are numbers, and this is their product
pub record IsWhole (f : Functions) (t : ℕ) (p : Product) (partial : Partial) : Type 0 where
  pub numbers : List Decimal
  pub valued : FactorsAre f t p.factors numbers partial.height
  pub number_is : decimal_of partial.number ≡ product_of p.negative numbers

-- factor j names a function that was not visited
pub record IsHeld (f : Functions) (t : ℕ) (marks : List Mark) (p : Product) (j : ℕ) (partial : Partial) (child : ℕ) : Type 0 where
  pub partly : IsPartial f t p j partial
  pub factor : Factor
  pub stands : slice_get p.factors j ≡ Some factor
  pub waits : WaitsFor f marks factor child

-- a factor stops the product
pub record FactorsStop (f : Functions) (t : ℕ) (followed : List ℕ) (line : ℕ) (p : Product) (fault : EvalFault) : Type 0 where
  pub place : ℕ
  pub factor : Factor
  pub before : AreNumbers f t p.factors place factor
  pub stops : FactorStops f t followed line factor fault

abbrev pub ReadsFactors : Functions → ℕ → List Mark → ℕ → Product → Result Progress EvalFault → Type 0
ReadsFactors f t marks line p (Ok (Whole partial)) = IsWhole f t p partial
ReadsFactors f t marks line p (Ok (Waits j partial child)) = IsHeld f t marks p j partial child
ReadsFactors f t marks line p (Err fault) = (followed : List ℕ) → AreFollowed marks followed → FactorsStop f t followed line p fault

-- the first k products have values that add up to `sum`
pub record IsSum (f : Functions) (t : ℕ) (products : List Product) (k : ℕ) (sum : Sum) : Type 0 where
  pub values : List ℤ
  pub valued : ProductsAre f t (take k products) values sum.height
  pub small : AreSmallSums values
  pub sum_is : sum.value ≡ total values

-- all products have values that add up to `sum`
pub record IsTotal (f : Functions) (t : ℕ) (products : List Product) (sum : Sum) : Type 0 where
  pub values : List ℤ
  pub valued : ProductsAre f t products values sum.height
  pub small : AreSmallSums values
  pub sum_is : sum.value ≡ total values

-- a product is added
abbrev pub Adds : ℕ → Sum → Partial → Result Sum EvalFault → Type 0
Adds line sum partial (Ok after) =
    record {
      nano : IsSmall (nano_of (decimal_of partial.number));
      value : after.value ≡ sum.value +ℤ nano_of (decimal_of partial.number);
      small : IsSmall after.value;
      height : after.height ≡ max sum.height partial.height;
    }
Adds line sum partial (Err fault) =
    (fault ≡ TooLarge line) × ((IsSmall (nano_of (decimal_of partial.number)) → ⊥) ⊎ (IsSmall (nano_of (decimal_of partial.number)) × (IsSmall (sum.value +ℤ nano_of (decimal_of partial.number)) → ⊥)))

-- an expression that waits for the function at the place `child`
pub record IsWaiting (f : Functions) (t : ℕ) (line : ℕ) (products : List Product) (w : Waiting) : Type 0 where
  pub line_is : w.line ≡ line
  pub products_is : w.products.now ≡ products
  pub product : Product
  pub product_stands : slice_get products w.product ≡ Some product
  pub sum : IsSum f t products w.product w.sum
  pub partly : IsPartial f t product w.factor w.partial
  pub name : List ℕ
  pub factor_stands : slice_get product.factors w.factor ≡ Some (Name name)
  pub at : place_of f name ≡ Some w.child

-- the first factors of a product are numbers
pub record IsMidway (f : Functions) (t : ℕ) (products : List Product) (k j : ℕ) (partial : Partial) : Type 0 where
  pub product : Product
  pub stands : slice_get products k ≡ Some product
  pub within : j ≤ length product.factors
  pub partly : IsPartial f t product j partial

-- what the reading of one product of a sum comes to
abbrev pub Steps : Functions → ℕ → List Mark → ℕ → List Product → ℕ → Result Turn EvalFault → Type 0
Steps f t marks line products k (Ok (Ended sum)) = IsSum f t products (k + 1) sum
Steps f t marks line products k (Ok (Needs w)) = IsWaiting f t line products w × (slice_get marks w.child ≡ Some Unvisited)
Steps f t marks line products k (Err fault) = (followed : List ℕ) → AreFollowed marks followed → ExprStops f t followed line (sum_of products) fault

-- what the reading of a sum comes to
abbrev pub Turns : Functions → ℕ → List Mark → ℕ → List Product → Result Turn EvalFault → Type 0
Turns f t marks line products (Ok (Ended sum)) = IsTotal f t products sum
Turns f t marks line products (Ok (Needs w)) = IsWaiting f t line products w × (slice_get marks w.child ≡ Some Unvisited)
Turns f t marks line products (Err fault) = (followed : List ℕ) → AreFollowed marks followed → ExprStops f t followed line (sum_of products) fault

-- and that of a ranged text
pub record TurnsOn (f : Functions) (t : ℕ) (marks : List Mark) (ranged : Ranged) (turn : Turn) : Type 0 where
  pub products : List Product
  pub holds : Holds t ranged.pieces (sum_of products)
  pub turns : Turns f t marks ranged.line products (Ok turn)

pub record StopsAt (f : Functions) (t : ℕ) (followed : List ℕ) (ranged : Ranged) (fault : EvalFault) : Type 0 where
  pub expr : Expr
  pub holds : Holds t ranged.pieces expr
  pub stops : ExprStops f t followed ranged.line expr fault

abbrev pub Begins : Functions → ℕ → List Mark → Ranged → Result Turn EvalFault → Type 0
Begins f t marks ranged (Ok turn) = TurnsOn f t marks ranged turn
Begins f t marks ranged (Err fault) = (followed : List ℕ) → AreFollowed marks followed → StopsAt f t followed ranged fault
