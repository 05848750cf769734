use Rattle.std.proofs.Common.{◌≡◌, ℕ, suc, ◌<◌, ◌≤◌, List, length, arith, ap, sym, ◌∙◌, subst}
use Rattle.std.specs.Prelude.{ℤ, pos, ◌≤ℤ◌, ◌≢◌}
use Rattle.std.proofs.Common.{of_z}
use Rattle.std.specs.Int.{w128}
use Rattle.std.proofs.lemmas.Int.{ints}
use Rattle.lp_laws.proofs.Skip.{put, put_same, put_other}
use Rattle.cal_math.specs.Vectors.{at, sum_to, dot}
use Rattle.lp_basis.specs.Rows.{FitsProduct}
use Rattle.lp_basis.specs.Columns.{IsSum}
use Rattle.lp_basis.specs.Held.{IsHeld, CanEnter, IsPut, AreRows, numbers_at}
use Rattle.lp_basis.specs.declared.row.Row.{Row}
use Rattle.lp_basis.proofs.Held.{fits_column}
use Rattle.lp_basis.proofs.Placed.{read_back}
use Rattle.plans_tests.proofs.basis.entered.Goals as goal

narrow : (b w sum : ℕ) (columns : ℕ → ℕ → ℤ) (rows : List Row) (column : List ℤ) → IsHeld (suc b) w columns rows → length column ≡ length rows → IsSum column sum → sum ≤ w → sum_to (suc b) (at column) ≤ℤ pos w
narrow b w sum columns rows column held same is le =
    let e : sum_to (suc b) (at column) ≡ pos sum = subst (λ (n : ℕ). sum_to n (at column) ≡ pos sum) (same ∙ held.count) is.exact in omega (arith, ints, e, le)

fits_row : (w sum : ℕ) (rows : List Row) (column : List ℤ) (i : ℕ) (row : Row) → AreRows w rows → i < length rows → length column ≡ length rows → IsSum column sum → sum ≤ w → (m : ℕ) × (v : ℕ) × FitsProduct m v (numbers_at rows i) column
fits_row w sum rows column i row are lt same is le =
    (_, _, fits_column are.0 w are.1 rows column are.2 (same ∙ are.2.count) is.least (narrow are.0 w sum are.1 rows column are.2 same is le) i (omega (arith, lt, are.2.count)))

can_enter : (w sum : ℕ) (rows : List Row) (column : List ℤ) (i : ℕ) → (are : AreRows w rows) → i < length rows → length column ≡ length rows → IsSum column sum → sum ≤ w → dot (suc are.0) (at (numbers_at rows i)) (at column) ≢ pos 0 →
    CanEnter (suc are.0) w are.1 rows i column
can_enter w sum rows column i are lt same is le met = record {
  held = are.2;
  within = omega (arith, lt, are.2.count);
  sized = same ∙ are.2.count;
  least = is.least;
  sum = narrow are.0 w sum are.1 rows column are.2 same is le;
  met = met;
}

pub product-requires : goal.product-requires
product-requires c =
    let row_is : numbers_at c.args.rows.now c.args.i ≡ c.deref.result.now = (read_back c.args.rows.now c.args.i c.index-rows-i.result (omega (arith, c.if-i-rows.false))).0 ∙ sym c.deref.ensures.value in
    rw row_is at (fits_row c.args.width c.in-Some.sum c.args.rows.now c.args.column.now c.args.i c.index-rows-i.result c.requires (omega (arith, c.if-i-rows.false)) (omega (arith, c.if-column-rows.false)) c.in-Some.ensures (omega (arith, c.if-sum-width.false)))

is_put : (n i : ℕ) (columns : ℕ → ℕ → ℤ) (column : List ℤ) → IsPut n i columns column (put i (at column) columns)
is_put n i columns column = record {
  enters = λ c lt. ap (λ (f : ℕ → ℤ). f c) (put_same i (at column) columns);
  stays = λ j lt ne c less. ap (λ (f : ℕ → ℤ). f c) (put_other i (at column) columns j ne);
}

pub exchange-requires : goal.exchange-requires
exchange-requires c =
    let are = c.requires in
    let lt : c.args.i < length c.args.rows.now = omega (arith, c.if-i-rows.false) in
    let row_is : c.deref.result.now ≡ numbers_at c.args.rows.now c.args.i = c.deref.ensures.value ∙ sym (read_back c.args.rows.now c.args.i c.index-rows-i.result lt).0 in
    let met_is : c.product.result ≡ dot (suc are.0) (at (numbers_at c.args.rows.now c.args.i)) (at c.args.column.now) =
    c.product.ensures ∙ ap (λ (xs : List ℤ). dot (length xs) (at xs) (at c.args.column.now)) row_is ∙ ap (λ (k : ℕ). dot k (at (numbers_at c.args.rows.now c.args.i)) (at c.args.column.now)) (are.2.lengths c.args.i (omega (arith, lt, are.2.count))) in
    (are.0, c.args.width, are.1, can_enter c.args.width c.in-Some.sum c.args.rows.now c.args.column.now c.args.i are lt (omega (arith, c.if-column-rows.false)) c.in-Some.ensures (omega (arith, c.if-sum-width.false)) (λ e. c.if-product-eq0.false (ap (λ (z : ℤ). of_z w128 z) (met_is ∙ e))))

pub returns-in_ok-next-in-Some : goal.returns-in_ok-next-in-Some
returns-in_ok-next-in-Some c =
    let are = c.requires in
    let lt : c.args.i < length c.args.rows.now = omega (arith, c.if-i-rows.false) in
    let row_is : c.deref.result.now ≡ numbers_at c.args.rows.now c.args.i = c.deref.ensures.value ∙ sym (read_back c.args.rows.now c.args.i c.index-rows-i.result lt).0 in
    let met_is : c.product.result ≡ dot (suc are.0) (at (numbers_at c.args.rows.now c.args.i)) (at c.args.column.now) =
    c.product.ensures ∙ ap (λ (xs : List ℤ). dot (length xs) (at xs) (at c.args.column.now)) row_is ∙ ap (λ (k : ℕ). dot k (at (numbers_at c.args.rows.now c.args.i)) (at c.args.column.now)) (are.2.lengths c.args.i (omega (arith, lt, are.2.count))) in (
      are.0,
      put c.args.i (at c.args.column.now) are.1,
      c.in_ok-next-in-Some.ensures are.0 c.args.width are.1 (put c.args.i (at c.args.column.now) are.1)
          (can_enter c.args.width c.in-Some.sum c.args.rows.now c.args.column.now c.args.i are lt (omega (arith, c.if-column-rows.false)) c.in-Some.ensures (omega (arith, c.if-sum-width.false)) (λ e. c.if-product-eq0.false (ap (λ (z : ℤ). of_z w128 z) (met_is ∙ e))))
          (is_put (suc are.0) c.args.i are.1 c.args.column.now),
    )
