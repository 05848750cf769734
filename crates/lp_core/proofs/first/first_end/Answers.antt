use Rattle.std.proofs.Common.{◌≡◌, suc, ◌-◌, length, arith}
use Rattle.lp_core.specs.Fitting.{widest}
use Rattle.lp_core.proofs.Beginning.{CanBegin-from_fits, CanRun-units}
use Rattle.lp_core.proofs.first.first_end.Goals as goal

pub stage_of_units-requires : goal.stage_of_units-requires
stage_of_units-requires c =
    let size : length c.args.target.now ≡ suc (length c.args.target.now - 1) = omega (arith, c.requires.aim.positive.1) in
    (length c.args.target.now - 1, widest (suc (length c.args.target.now - 1)) c.args.columns.now, size, CanBegin-from_fits (length c.args.target.now - 1) c.args.columns.now c.args.target.now c.requires size)

pub run-requires : goal.run-requires
run-requires c =
    let size : length c.args.target.now ≡ suc (length c.args.target.now - 1) = omega (arith, c.requires.aim.positive.1) in
    (length c.args.target.now - 1, widest (suc (length c.args.target.now - 1)) c.args.columns.now, 1, CanRun-units (length c.args.target.now - 1) c.args.columns.now c.args.target.now c.in_ok-stage.stage c.requires size c.in_ok-stage.ensures)

pub returns : goal.returns
returns c b size =
    let done = c.in_ok-end.ensures b (widest (suc b) c.args.columns.now) 1 (CanRun-units b c.args.columns.now c.args.target.now c.in_ok-stage.stage c.requires size c.in_ok-stage.ensures) in
    record { run = done.run; dear = done.dear }
