-- A sum, one product at a time.
use Rattle.std.proofs.Common.{◌≡◌, ℕ, ◌+◌, ◌≤◌, List, [], ◌∷◌, ◌++◌, length, get_or, take, Some, Ok, Err, sym, ap, subst, ◌∙◌, arith, inl, inr}
use Rattle.std.specs.Prelude.{ℤ, pos, ◌+ℤ◌, unsigned_abs, slice_get}
use Rattle.std.proofs.lemmas.Option.{get_or_from_slice_get, slice_get_within}
use Rattle.cal_dec.specs.Decimals.{decimal_of}
use Rattle.cal_dec.specs.Scales.{nano_of}
use Rattle.tdb_expr.specs.declared.factor.Factor.{Factor}
use Rattle.tdb_expr.specs.declared.factor.Factor.TheVariants.{Name}
use Rattle.tdb_expr.specs.declared.product.Product.{Product}
use Rattle.tdb_expr.specs.declared.expression.Expr.{Expr}
use Rattle.tdb_expr.specs.declared.expression.Expr.TheVariants.{Sum as sum_of, Unsupported as Outside}
use Rattle.tdb_expr.specs.declared.ranged.Piece.{Piece}
use Rattle.tdb_expr.specs.declared.ranged.Ranged.{Ranged}
use Rattle.temp_fun.specs.Pieces.{Holds}
use Rattle.temp_fun.specs.declared.mark.Mark.{Mark}
use Rattle.temp_fun.specs.declared.mark.Mark.TheVariants.{Unvisited}
use Rattle.temp_fun.specs.declared.partial.Partial.{Partial}
use Rattle.temp_fun.specs.declared.partial.Sum.{Sum}
use Rattle.temp_fun.specs.declared.waiting.Waiting.{Waiting}
use Rattle.temp_fun.specs.declared.fault.EvalFault.{EvalFault}
use Rattle.temp_fun.specs.declared.fault.EvalFault.TheVariants.{Unsupported}
use Rattle.temp_fun.specs.Functions.{Functions}
use Rattle.temp_fun.specs.Values.{FactorsAre, ProductsAre, no_factor, no_product, product_of, one, total, IsSmall}
use Rattle.temp_fun.specs.Stops.{AreRead, IsWorth, ExprStops, outside, at_factor, at_product, at_sum}
use Rattle.temp_fun.specs.Progress.{IsPartial, IsWhole, IsHeld, FactorsStop, IsSum, IsTotal, Adds, IsMidway, IsWaiting, StopsAt}
use Rattle.temp_fun.proofs.Fronts.{take_next, take_all, products_next, total_next, small_none, small_next, total_small}

pub partial_start : (f : Functions) (t : ℕ) (p : Product) (a : Partial) → decimal_of a.number ≡ one p.negative → unsigned_abs a.number.exponent ≡ 0 → a.height ≡ 0 → IsPartial f t p 0 a
unfolding product_of
partial_start f t p a e none height = record {
  numbers = [];
  valued = subst (λ (h : ℕ). FactorsAre f t [] [] h) (sym height) no_factor;
  number_is = e;
  modest = omega (arith, none);
}

pub sum_start : (f : Functions) (t : ℕ) (products : List Product) (a : Sum) → a.value ≡ pos 0 → a.height ≡ 0 → IsSum f t products 0 a
unfolding total
sum_start f t products a e height = record {
  values = [];
  valued = subst (λ (h : ℕ). ProductsAre f t [] [] h) (sym height) no_product;
  small = small_none;
  sum_is = e;
}

pub sum_small : (f : Functions) (t : ℕ) (products : List Product) (k : ℕ) (a : Sum) → IsSum f t products k a → IsSmall a.value
sum_small f t products k a is = subst IsSmall (sym is.sum_is) (total_small is.values is.small)

pub sum_next : (f : Functions) (t : ℕ) (line : ℕ) (products : List Product) (k : ℕ) (p : Product) (a b : Sum) (partial : Partial) → slice_get products k ≡ Some p → IsSum f t products k a → IsWhole f t p partial → Adds line a partial (Ok b) → IsSum f t products (k + 1) b
sum_next f t line products k p a b partial stands is whole adds =
    let v : ℤ = nano_of (product_of p.negative whole.numbers) in
    let v_is : nano_of (decimal_of partial.number) ≡ v = ap nano_of whole.number_is in
    let value : b.value ≡ total is.values +ℤ v = adds.value ∙ ap (λ (x : ℤ). x +ℤ nano_of (decimal_of partial.number)) is.sum_is ∙ ap (λ (x : ℤ). total is.values +ℤ x) v_is in
    record {
      values = is.values ++ v ∷ [];
      valued = rw (take_next products k p stands, adds.height) (products_next f t (take k products) is.values a.height p whole.numbers partial.height is.valued whole.valued (subst IsSmall v_is adds.nano));
      small = small_next is.values v is.small (subst IsSmall value adds.small);
      sum_is = value ∙ sym (total_next is.values v);
    }

pub sum_stops : (f : Functions) (t : ℕ) (followed : List ℕ) (line : ℕ) (products : List Product) (k : ℕ) (p : Product) (a : Sum) (partial : Partial) (fault : EvalFault) → slice_get products k ≡ Some p → IsSum f t products k a → IsWhole f t p partial → Adds line a partial (Err fault) → ExprStops f t followed line (sum_of products) fault
sum_stops f t followed line products k p a partial fault stands is whole adds =
    subst (λ (e : EvalFault). ExprStops f t followed line (sum_of products) e) (sym adds.0) (elim adds.1 [
      | inl large ↦ at_product followed line products k p is.values (nano_of (decimal_of partial.number)) read worth large
      | inr large ↦ at_sum followed line products k p is.values (nano_of (decimal_of partial.number)) read worth large.0 (λ small. large.1 (subst (λ (x : ℤ). IsSmall (x +ℤ nano_of (decimal_of partial.number))) (sym is.sum_is) small))
    ])
  where
    read : AreRead f t products k p is.values
    read = record { stands = stands; height = a.height; valued = is.valued; small = is.small }

    worth : IsWorth f t p (nano_of (decimal_of partial.number))
    worth = record { numbers = whole.numbers; height = partial.height; valued = whole.valued; nano = ap nano_of whole.number_is }

pub factors_stop : (f : Functions) (t : ℕ) (followed : List ℕ) (line : ℕ) (products : List Product) (k : ℕ) (p : Product) (a : Sum) (fault : EvalFault) → slice_get products k ≡ Some p → IsSum f t products k a → FactorsStop f t followed line p fault → ExprStops f t followed line (sum_of products) fault
factors_stop f t followed line products k p a fault stands is stop =
    at_factor followed line products k p is.values stop.place stop.factor fault (record { stands = stands; height = a.height; valued = is.valued; small = is.small }) stop.before stop.stops

pub sum_total : (f : Functions) (t : ℕ) (products : List Product) (k : ℕ) (a : Sum) → length products ≤ k → IsSum f t products k a → IsTotal f t products a
sum_total f t products k a end is = record {
  values = is.values;
  valued = subst (λ (ps : List Product). ProductsAre f t ps is.values a.height) (take_all products k end) is.valued;
  small = is.small;
  sum_is = is.sum_is;
}

pub midway_start : (f : Functions) (t : ℕ) (products : List Product) (k : ℕ) (p : Product) (a : Partial) → slice_get products k ≡ Some p → decimal_of a.number ≡ one p.negative → a.number.exponent ≡ pos 0 → a.height ≡ 0 → IsMidway f t products k 0 a
midway_start f t products k p a stands e none height = record {
  product = p;
  stands = stands;
  within = omega arith;
  partly = partial_start f t p a e (ap unsigned_abs none) height;
}

-- the product that is midway
pub midway_at : (f : Functions) (t : ℕ) (products : List Product) (k j : ℕ) (p : Product) (a : Partial) → p ≡ get_or products k p → (m : IsMidway f t products k j a) → m.product ≡ p
midway_at f t products k j p a is m = sym (is ∙ get_or_from_slice_get products k m.product p m.stands)

pub midway_waiting : (f : Functions) (t : ℕ) (line : ℕ) (products : List Product) (w : Waiting) → IsWaiting f t line products w → IsMidway f t products w.product w.factor w.partial
midway_waiting f t line products w is = record {
  product = is.product;
  stands = is.product_stands;
  within = omega (arith, slice_get_within is.product.factors w.factor (Name is.name) is.factor_stands);
  partly = is.partly;
}

pub held_waits : (f : Functions) (t : ℕ) (marks : List Mark) (line : ℕ) (products : List Product) (k : ℕ) (p : Product) (a : Sum) (j child : ℕ) (partial : Partial) (w : Waiting) →
    slice_get products k ≡ Some p → IsSum f t products k a → IsHeld f t marks p j partial child →
    w.line ≡ line → w.products.now ≡ products → w.product ≡ k → w.factor ≡ j → w.sum ≡ a → w.partial ≡ partial → w.child ≡ child → IsWaiting f t line products w × (slice_get marks w.child ≡ Some Unvisited)
held_waits f t marks line products k p a j child partial w stands is held el ep ek ej es ea ec = (
  record {
    line_is = el;
    products_is = ep;
    product = p;
    product_stands = ap (slice_get products) ek ∙ stands;
    sum = rw (ek, es) is;
    partly = rw (ej, ea) held.partly;
    name = held.waits.name;
    factor_stands = ap (slice_get p.factors) ej ∙ held.stands ∙ ap (λ (x : Factor). Some x) held.waits.is_name;
    at = held.waits.at ∙ ap (λ (n : ℕ). Some n) (sym ec);
  },
  ap (slice_get marks) ec ∙ held.waits.unvisited,
)

pub midway_stands : (f : Functions) (t : ℕ) (products : List Product) (k j : ℕ) (p : Product) (a : Partial) → p ≡ get_or products k p → IsMidway f t products k j a → slice_get products k ≡ Some p
midway_stands f t products k j p a is m = m.stands ∙ ap (λ (x : Product). Some x) (midway_at f t products k j p a is m)

pub outside_stops : (f : Functions) (t : ℕ) (followed : List ℕ) (ranged : Ranged) (pieces : List Piece) (expr : Expr) → pieces ≡ ranged.pieces → Holds t pieces expr → expr ≡ Outside → StopsAt f t followed ranged (Unsupported ranged.line)
outside_stops f t followed ranged pieces expr same holds is = record {
  expr = expr;
  holds = subst (λ (ps : List Piece). Holds t ps expr) same holds;
  stops = subst (λ (e : Expr). ExprStops f t followed ranged.line e (Unsupported ranged.line)) (sym is) (outside followed ranged.line);
}
