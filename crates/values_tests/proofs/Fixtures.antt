-- Lists that grow keep what a database keeps.
use Rattle.std.proofs.Common.{◌≡◌, ℕ, zero, suc, ◌+◌, ◌<◌, List, [], ◌∷◌, ◌++◌, length, length-append, Some, Bool, true, false, cond, refl, sym, ap, subst, arith}
use Rattle.std.specs.Prelude.{slice_get}
use Rattle.std.specs.List.{AllByRecursion}
use Rattle.indexmap.specs.IndexMap.{insert_entry}
use Rattle.tdb_expr.specs.declared.ranged.Piece.{Piece}
use Rattle.tdb_expr.specs.declared.ranged.Ranged.{Ranged}
use Rattle.tdb_expr.specs.Forms.{IsPiece, IsRanged}

abbrev pub ArePieces : List Piece → Type 0
ArePieces pieces = (i : ℕ) (piece : Piece) → slice_get pieces i ≡ Some piece → IsPiece piece

pub no_pieces : ArePieces []
no_pieces i piece at = absurd cc

some_of : {A : Type 0} (x y : A) → Some x ≡ Some y → x ≡ y
some_of x y e = cc

pub pieces_more : (pieces : List Piece) (x : Piece) → ArePieces pieces → IsPiece x → ArePieces (pieces ++ x ∷ [])
pieces_more [] x all fine zero piece at = subst IsPiece (some_of x piece at) fine
pieces_more [] x all fine (suc i) piece at = absurd cc
pieces_more (p ∷ ps) x all fine zero piece at = all zero piece at
pieces_more (p ∷ ps) x all fine (suc i) piece at = pieces_more ps x (λ i piece at. all (suc i) piece at) fine i piece at

pub All-insert_entry : {K X : Type 0} (eq : K → K → Bool) (Q : X → Type 0) (es : List (K × X)) (k : K) (v : X)
    → AllByRecursion (λ e. Q e.1) es → Q v → AllByRecursion (λ e. Q e.1) (insert_entry eq es k v)
All-insert_entry eq Q [] k v all q = (q, tt)
All-insert_entry {K} {X} eq Q (e ∷ es) k v all q = by_key (eq k e.0) (All-insert_entry eq Q es k v all.1 q)
  where
    by_key : (b : Bool) → AllByRecursion (λ e. Q e.1) (insert_entry eq es k v) → AllByRecursion (λ e. Q e.1) (cond b ((e.0, v) ∷ es) (e ∷ insert_entry eq es k v))
    by_key true rest = (q, all.1)
    by_key false rest = (all.0, rest)
