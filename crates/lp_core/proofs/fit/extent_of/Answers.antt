use Rattle.std.proofs.Common.{◌≡◌, ℕ, suc, ◌+◌, ◌<◌, ◌≤◌, get_or, List, length, arith, sym, refl, subst, rules, SFits}
use Rattle.std.specs.Prelude.{unsigned_abs}
use Rattle.std.specs.Int.{w128}
use Rattle.std.proofs.lemmas.Int.{ints, to_z-of_z}
use Rattle.std.proofs.lemmas.List.Elements.{All-more, All-get_or}
use Rattle.lp_basis.specs.Columns.{IsColumn, sum_at}
use Rattle.lp_core.specs.Fitting.{IsMeasured, IsExtent, widest, dearest}
use Rattle.lp_basis.specs.declared.column.Column.{Column}
use Rattle.lp_core.proofs.Extents.{widest-more, dearest-more, sum-le_widest}
use Rattle.lp_core.proofs.fit.extent_of.Goals as goal

pub columns-init : goal.columns-init
unfolding widest dearest
columns-init c = record { fine = λ k d lt. absurd (omega arith); width_is = refl; cost_is = refl; most = omega arith }

measured_from : (n w s i : ℕ) (columns : List Column) (column : Column) → IsExtent n columns w s → i < length columns → column ≡ get_or columns i column → IsMeasured n column (sum_at n column)
measured_from n w s i columns column is lt e =
    let fine : IsColumn n column = subst (IsColumn n) (sym e) (All-get_or (IsColumn n) columns i column lt is.fine) in
    record {
      fine = fine;
      exact = omega (arith, ints, fine.positive);
      most = omega (arith, subst (λ (x : Column). sum_at n x ≤ widest n columns) (sym e) (sum-le_widest n i columns column lt), is.width_is, is.most);
    }

pub returns-in-None : goal.returns-in-None
returns-in-None c w s is =
    c.in-None.ensures (sum_at c.args.size c.index-columns-i.result) (measured_from c.args.size w s c.columns.i c.args.columns.now c.index-columns-i.result is c.columns-test.true c.index-columns-i.is)

pub columns-preserved : goal.columns-preserved
columns-preserved c =
    let column : Column = c.index-columns-i.result in
    let lt : c.columns.i < length c.args.columns.now = c.columns-test.true in
    let one : c.columns.i + 1 ≡ suc c.columns.i = omega arith in
    let fits : SFits w128 column.cost = search rules in
    let size : c.unsigned_abs.result ≡ unsigned_abs column.cost = simp to_z-of_z at c.unsigned_abs.ensures.value in
    let sum : c.in-Some.sum ≡ sum_at c.args.size column = omega (arith, ints, c.in-Some.ensures.exact) in
    record {
      fine = All-more (IsColumn c.args.size) c.args.columns.now c.columns.i column lt c.columns.invariant.fine (subst (IsColumn c.args.size) c.index-columns-i.is c.in-Some.ensures.fine);
      width_is = rw one (rw (widest-more c.args.size c.columns.i c.args.columns.now column lt, ← c.index-columns-i.is) (omega (arith, c.max-width.ensures, c.columns.invariant.width_is, sum)));
      cost_is = rw one (rw (dearest-more c.columns.i c.args.columns.now column lt, ← c.index-columns-i.is) (omega (arith, c.max-cost.ensures, c.columns.invariant.cost_is, size)));
      most = omega (arith, c.max-width.ensures, c.columns.invariant.most, c.in-Some.ensures.most);
    }
