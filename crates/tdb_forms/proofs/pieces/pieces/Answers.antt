use Rattle.std.proofs.Common.{List, ℕ, ◌++◌, ◌∷◌, [], ◌<◌, length, length-append, arith}
use Rattle.tdb_expr.specs.declared.ranged.Piece.{Piece}
use Rattle.tdb_expr.specs.Forms.{IsPiece as IsFinePiece}
use Rattle.tdb_forms.specs.Ranges.{IsPiece}
use Rattle.tdb_forms.proofs.Ranging.{from_none, from_some, held_start, held_none, held_end, held_next, held_other, each_push}
use Rattle.tdb_forms.proofs.pieces.pieces.Goals as goal

pub pieces-init : goal.pieces-init
pieces-init c = rw c.new-all.ensures (held_start c.args.text.now)

pub returns-in-None-clause-value : goal.returns-in-None-clause-value
returns-in-None-clause-value c =
    held_none c.args.text.now c.pieces.all c.pieces.rest.now c.pieces.invariant
    (from_none c.in_ok-found.found ((piece : Piece) (rest : List ℕ) → IsPiece c.pieces.rest.now piece rest → ⊥) c.in-None.is c.in_ok-found.ensures.none)

pub returns-in-End-clause-value : goal.returns-in-End-clause-value
returns-in-End-clause-value c =
    rw c.in_ok-push-in-Some.ensures.ok
    (held_end c.args.text.now c.pieces.all c.pieces.rest.now c.in-Some.behind.now c.in-Some.piece c.pieces.invariant
    (from_some c.in_ok-found.found (λ r. IsPiece c.pieces.rest.now r.0 r.1.now) (c.in-Some.piece, c.in-Some.behind) c.in-Some.is c.in_ok-found.ensures.found) c.in-End.ensures)

pub returns-in-End-clause-fine : goal.returns-in-End-clause-fine
returns-in-End-clause-fine c =
    rw c.in_ok-push-in-Some.ensures.ok
    (record {
      least = omega (arith, length-append c.pieces.all (c.in-Some.piece ∷ []));
      each = each_push c.pieces.all c.in-Some.piece c.pieces.invariant.fine (from_some c.in_ok-found.found (λ r. IsFinePiece r.0) (c.in-Some.piece, c.in-Some.behind) c.in-Some.is c.in_ok-found.ensures.fine);
    })

pub pieces-preserved : goal.pieces-preserved
pieces-preserved c =
    rw c.in_ok-push-in-Some.ensures.ok
    (held_next c.args.text.now c.pieces.all c.pieces.rest.now c.in-Some.behind.now c.in-Next.next.now c.in-Some.piece c.pieces.invariant
    (from_some c.in_ok-found.found (λ r. IsPiece c.pieces.rest.now r.0 r.1.now) (c.in-Some.piece, c.in-Some.behind) c.in-Some.is c.in_ok-found.ensures.found)
    (from_some c.in_ok-found.found (λ r. IsFinePiece r.0) (c.in-Some.piece, c.in-Some.behind) c.in-Some.is c.in_ok-found.ensures.fine) c.in-Next.ensures)

pub returns-in-Other-clause-value : goal.returns-in-Other-clause-value
returns-in-Other-clause-value c =
    held_other c.args.text.now c.pieces.all c.pieces.rest.now c.in-Some.behind.now c.in-Some.piece c.pieces.invariant
    (from_some c.in_ok-found.found (λ r. IsPiece c.pieces.rest.now r.0 r.1.now) (c.in-Some.piece, c.in-Some.behind) c.in-Some.is c.in_ok-found.ensures.found) c.in-Other.ensures.0 c.in-Other.ensures.1
