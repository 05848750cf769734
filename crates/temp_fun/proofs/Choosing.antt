-- Which piece holds.
use Rattle.std.proofs.Common.{◌≡◌, ℕ, zero, suc, [], ◌∷◌, ◌+◌, ◌-◌, ◌<◌, ◌≤◌, List, length, get_or, Some, refl, sym, ap, subst, arith, inl, inr}
use Rattle.std.specs.Prelude.{slice_get}
use Rattle.std.proofs.lemmas.Bool.{cases_lt}
use Rattle.std.proofs.lemmas.List.{get_or_default}
use Rattle.std.proofs.lemmas.Option.{slice_get-get_or, get_or_from_slice_get}
use Rattle.cal_dec.specs.Decimals.{decimal_of}
use Rattle.cal_dec.specs.Scales.{IsBelow}
use Rattle.tdb_expr.specs.declared.ranged.Piece.{Piece}
use Rattle.tdb_expr.specs.declared.product.Product.{Product}
use Rattle.tdb_expr.specs.declared.expression.Expr.{Expr}
use Rattle.tdb_expr.specs.declared.expression.Expr.TheVariants.{Sum as sum_of}
use Rattle.tdb_expr.specs.declared.ranged.Ranged.{Ranged}
use Rattle.tdb_expr.specs.Forms.{IsExpr, IsRanged, AreProducts}
use Rattle.temp_fun.specs.Pieces.{Holds}
use Rattle.temp_fun.specs.Functions.{Functions, IsFunctionAt, AreFunctions}

abbrev pub AllBelow : ℕ → List Piece → ℕ → Type 0
AllBelow t pieces i = (k : ℕ) (other : Piece) → k < i → slice_get pieces k ≡ Some other → IsBelow t (decimal_of other.high) → ⊥

pub holds_here : (t : ℕ) (pieces : List Piece) (i : ℕ) (a b : Piece) → i < length pieces → AllBelow t pieces i → IsBelow t (decimal_of (get_or pieces i a).high) → Holds t pieces (get_or pieces i b).expr
holds_here t pieces i a b within earlier here = record {
  place = i;
  piece = get_or pieces i a;
  stands = slice_get-get_or pieces i a within;
  expr_is = ap (λ (p : Piece). p.expr) (get_or_default pieces i a b within);
  earlier = earlier;
  here = inl here;
}

pub not_earlier : (t : ℕ) (pieces : List Piece) (i : ℕ) (a : Piece) → AllBelow t pieces i → (IsBelow t (decimal_of (get_or pieces i a).high) → ⊥) → AllBelow t pieces (i + 1)
not_earlier t pieces i a earlier above k other less stands below =
    elim (cases_lt k i) [
      | inl before ↦ earlier k other before stands below
      | inr after ↦
          let same : k ≡ i = omega arith in
          let is : get_or pieces i a ≡ other = get_or_from_slice_get pieces i other a (subst (λ (n : ℕ). slice_get pieces n ≡ Some other) same stands) in
          above (subst (λ (p : Piece). IsBelow t (decimal_of p.high)) (sym is) below)
    ]

pub holds_last : (t : ℕ) (pieces : List Piece) (i : ℕ) (a : Piece) → 0 < length pieces → length pieces - 1 ≤ i → AllBelow t pieces i → Holds t pieces (get_or pieces (length pieces - 1) a).expr
holds_last t pieces i a some end earlier = record {
  place = length pieces - 1;
  piece = get_or pieces (length pieces - 1) a;
  stands = slice_get-get_or pieces (length pieces - 1) a (omega arith);
  expr_is = refl;
  earlier = λ k other less stands. earlier k other (omega (arith, less)) stands;
  here = inr (omega arith);
}

pub products_fine : (t : ℕ) (ranged : Ranged) (products : List Product) → IsRanged ranged → Holds t ranged.pieces (sum_of products) → AreProducts products
products_fine t ranged products fine holds =
    let expr : IsExpr holds.piece.expr = (fine.pieces holds.place holds.piece holds.stands).expr in
    subst IsExpr holds.expr_is expr

-- the products of the expression that was chosen
pub chosen_fine : (t : ℕ) (ranged : Ranged) (pieces : List Piece) (expr : Expr) (items products : List Product) → IsRanged ranged → pieces ≡ ranged.pieces → Holds t pieces expr → expr ≡ sum_of items → products ≡ items
    → AreProducts products
chosen_fine t ranged pieces expr items products fine from holds is given =
    let here = subst (λ (ps : List Piece). Holds t ps expr) from holds in
    subst AreProducts (sym given) (products_fine t ranged items fine (subst (λ (e : Expr). Holds t ranged.pieces e) is here))

abbrev Entry : Type 0
Entry = List ℕ × Ranged

some_of : {A : Type 0} (x y : A) → Some x ≡ Some y → x ≡ y
some_of x y e = cc

-- a function is one that a database keeps
pub function_ranged : (f : Functions) (place : ℕ) (ranged : Ranged) → AreFunctions f → IsFunctionAt f place ranged → IsRanged ranged
function_ranged [] place ranged all at = let none = at.1 in absurd cc
function_ranged (e ∷ es) zero ranged all at = subst IsRanged (ap (λ (x : Entry). x.1) (some_of e (at.0, ranged) at.1)) all.0
function_ranged (e ∷ es) (suc place) ranged all at = function_ranged es place ranged all.1 (at.0, at.1)
