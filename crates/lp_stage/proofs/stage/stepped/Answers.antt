use Rattle.std.proofs.Common.{◌≡◌, ℕ, suc, ◌<◌, List, arith, sym, ◌∙◌, subst}
use Rattle.std.specs.Prelude.{ℤ, pos, ◌≤ℤ◌, ◌≢◌, Option, Some, None, MatchOption}
use Rattle.std.proofs.lemmas.Int.{ints}
use Rattle.lp_stage.specs.Leaving.{amounts_at, row_product, IsLeaving, IsLeavingOf}
use Rattle.lp_stage.specs.Stages.{basis_columns, CanMove, CanStep}
use Rattle.lp_basis.specs.declared.row.Row.{Row}
use Rattle.lp_basis.specs.declared.column.Column.{Column}
use Rattle.lp_stage.specs.declared.phase.Phase.{Phase}
use Rattle.lp_stage.proofs.RatioTest.{amounts_read}
use Rattle.lp_stage.proofs.stage.stepped.Goals as goal

not_zero : (z : ℤ) → pos 1 ≤ℤ z → z ≢ pos 0
not_zero z h e = omega (arith, ints, h, e)

-- what the ratio test found
found_at : (b w s v : ℕ) (phase : Phase) (columns starts : List Column) (places : List (Option ℕ)) (rows : List Row) (k : ℕ) (column : List ℤ) (found : Option ℕ) → CanStep b w s v phase columns starts places rows k → amounts_at columns k ≡ column →
    IsLeavingOf rows column starts found → MatchOption found ((j : ℕ) → j < suc b → row_product (suc b) rows (amounts_at columns k) j ≤ℤ pos 0) (IsLeaving (suc b) rows (amounts_at columns k) starts (suc b))
found_at b w s v phase columns starts places rows k column found can e is =
    subst (λ (xs : List ℤ). IsLeavingOf rows xs starts found) (sym e) is b w v (basis_columns columns places) can.leaves

can_move : (b w s v : ℕ) (phase : Phase) (columns starts : List Column) (places : List (Option ℕ)) (rows : List Row) (i k : ℕ) → CanStep b w s v phase columns starts places rows k →
    IsLeaving (suc b) rows (amounts_at columns k) starts (suc b) i → CanMove b w s phase columns places rows i k
can_move b w s v phase columns starts places rows i k can is = record {
  during = can.during;
  basis = can.basis;
  place = is.within;
  known = can.known;
  met = not_zero (row_product (suc b) rows (amounts_at columns k) i) is.positive;
}

pub leaving-requires : goal.leaving-requires
leaving-requires c =
    let can = c.requires.4 in
    let column_is = amounts_read c.args.columns.now c.args.k c.index-columns-k.result can.known c.index-columns-k.is ∙ sym c.deref.ensures.value in
    (c.requires.0, c.requires.1, c.requires.3, basis_columns c.args.columns.now c.args.places.now, rw column_is at can.leaves)

-- what the ratio test found at one of its answers
found_as : (b w s v : ℕ) (phase : Phase) (columns starts : List Column) (places : List (Option ℕ)) (rows : List Row) (k : ℕ) (column : List ℤ) (found answer : Option ℕ) → CanStep b w s v phase columns starts places rows k → amounts_at columns k ≡ column →
    IsLeavingOf rows column starts found → found ≡ answer → MatchOption answer ((j : ℕ) → j < suc b → row_product (suc b) rows (amounts_at columns k) j ≤ℤ pos 0) (IsLeaving (suc b) rows (amounts_at columns k) starts (suc b))
found_as b w s v phase columns starts places rows k column found answer can e is same =
    subst (λ (o : Option ℕ). MatchOption o ((j : ℕ) → j < suc b → row_product (suc b) rows (amounts_at columns k) j ≤ℤ pos 0) (IsLeaving (suc b) rows (amounts_at columns k) starts (suc b))) same (found_at b w s v phase columns starts places rows k column found can e is)

pub exchanged-requires : goal.exchanged-requires
exchanged-requires c =
    let can = c.requires.4 in
    let column_is = amounts_read c.args.columns.now c.args.k c.index-columns-k.result can.known c.index-columns-k.is ∙ sym c.deref.ensures.value in
    let at_place = found_as c.requires.0 c.requires.1 c.requires.2 c.requires.3 c.args.phase c.args.columns.now c.args.starts.now c.args.places.now c.args.rows.now c.args.k c.deref.result.now c.in_ok-found.found (Some c.in-Some.i) can column_is c.in_ok-found.ensures c.in-Some.is in
    (c.requires.0, c.requires.1, c.requires.2, can_move c.requires.0 c.requires.1 c.requires.2 c.requires.3 c.args.phase c.args.columns.now c.args.starts.now c.args.places.now c.args.rows.now c.in-Some.i c.args.k can at_place)

pub returns-in-None : goal.returns-in-None
returns-in-None c b w s v can =
    let column_is = amounts_read c.args.columns.now c.args.k c.index-columns-k.result can.known c.index-columns-k.is ∙ sym c.deref.ensures.value in
    found_as b w s v c.args.phase c.args.columns.now c.args.starts.now c.args.places.now c.args.rows.now c.args.k c.deref.result.now c.in_ok-found.found None can column_is c.in_ok-found.ensures c.in-None.is

pub returns-in_ok-next-in-Some : goal.returns-in_ok-next-in-Some
returns-in_ok-next-in-Some c b w s v can =
    let column_is = amounts_read c.args.columns.now c.args.k c.index-columns-k.result can.known c.index-columns-k.is ∙ sym c.deref.ensures.value in
    let at_place = found_as b w s v c.args.phase c.args.columns.now c.args.starts.now c.args.places.now c.args.rows.now c.args.k c.deref.result.now c.in_ok-found.found (Some c.in-Some.i) can column_is c.in_ok-found.ensures c.in-Some.is in
    record {
      place = c.in-Some.i;
      leaving = at_place;
      stage = c.in_ok-next-in-Some.ensures b w s (can_move b w s v c.args.phase c.args.columns.now c.args.starts.now c.args.places.now c.args.rows.now c.in-Some.i c.args.k can at_place);
    }
