use Rattle.std.proofs.Common.{◌≡◌, ℕ, suc, arith, subst}
use Rattle.lp_core.specs.Fitting.{widest, dearest}
use Rattle.lp_core.specs.SecondPhase.{IsReady}
use Rattle.lp_core.proofs.Spare.{CanStand-follow, IsReady-first}
use Rattle.lp_core.proofs.second.second_start.Goals as goal

pub priced-requires : goal.priced-requires
priced-requires c =
    (c.requires.0, widest (suc c.requires.0) c.args.columns.now, dearest c.args.columns.now, CanStand-follow c.requires.0 c.args.columns.now c.requires.1 c.args.end c.requires.2)

pub places-init : goal.places-init
places-init c b target can =
    IsReady-first b c.args.columns.now target c.args.end c.in_ok-stage.stage can c.in_ok-stage.ensures.rows
    (c.in_ok-stage.ensures.stage b (widest (suc b) c.args.columns.now) (dearest c.args.columns.now) (CanStand-follow b c.args.columns.now target c.args.end can))

pub without_unit-requires : goal.without_unit-requires
without_unit-requires c =
    (c.requires.0, c.requires.1, omega (arith, c.places-test.true, c.len-size.ensures, c.requires.2.first.run.basis.count), c.places.invariant c.requires.0 c.requires.1 c.requires.2)

pub places-preserved : goal.places-preserved
places-preserved c b target can =
    c.in_ok-stage-2.ensures b target (omega (arith, c.places-test.true, c.len-size.ensures, can.first.run.basis.count)) (c.places.invariant b target can)

pub returns : goal.returns
returns c b target can =
    let done : c.places.j ≡ suc b = omega (arith, c.places-test.false, c.places.auto.j-end, c.len-size.ensures, can.first.run.basis.count) in
    subst (λ (n : ℕ). IsReady b c.args.columns.now target n c.places.stage) done (c.places.invariant b target can)
