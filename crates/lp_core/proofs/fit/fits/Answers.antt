use Rattle.std.proofs.Common.{ℕ, zero, suc, ◌≤◌, ◌^◌, List, [], ◌∷◌, length, refl, arith}
use Rattle.std.specs.Prelude.{All}
use Rattle.std.proofs.lemmas.List.Elements.{All-head, All-tail}
use Rattle.std.proofs.Math.Nat.{pow-suc, one-le-pow, mul-le-mul_right}
use Rattle.lp_basis.specs.Columns.{IsColumn}
use Rattle.lp_core.specs.Fitting.{widest, dearest}
use Rattle.lp_basis.specs.declared.column.Column.{Column}
use Rattle.lp_core.proofs.Extents.{one-le_widest}
use Rattle.lp_core.proofs.fit.fits.Goals as goal

dearest_most : (n : ℕ) (columns : List Column) → All (IsColumn n) columns → dearest columns ≤ 2 ^ 55
unfolding dearest
dearest_most n [] all = omega arith
dearest_most n (x ∷ columns) all = omega (arith, (All-head (IsColumn n) x columns all).cost, dearest_most n columns (All-tail (IsColumn n) x columns all))

pub has_room-requires-clause-width : goal.has_room-requires-clause-width
has_room-requires-clause-width c = omega (arith, c.in-Some.ensures.width_is, one-le_widest (length c.args.target.now) c.args.columns.now)

pub has_room-requires-clause-cost_room : goal.has_room-requires-clause-cost_room
has_room-requires-clause-cost_room c = omega (arith, c.in-Some.ensures.cost_is, dearest_most (length c.args.target.now) c.args.columns.now c.in-Some.ensures.fine)

-- a sum is at most its power
wide_most : (n w : ℕ) → 1 ≤ n → 1 ≤ w → w ^ n ≤ 2 ^ 62 → w ≤ 2 ^ 62
wide_most zero w some more h = absurd (omega arith)
wide_most (suc b) w some more h = omega (arith, pow-suc w b, h, mul-le-mul_right w (one-le-pow b w more))

pub returns-in-None-clause-no : goal.returns-in-None-clause-no
returns-in-None-clause-no c fits =
    c.in-None.ensures (widest (length c.args.target.now) c.args.columns.now) (dearest c.args.columns.now) (record {
      fine = fits.fine;
      width_is = refl;
      cost_is = refl;
      most = wide_most (length c.args.target.now) (widest (length c.args.target.now) c.args.columns.now) (omega (arith, fits.aim.positive.1)) (one-le_widest (length c.args.target.now) c.args.columns.now) fits.room.wide;
    })
