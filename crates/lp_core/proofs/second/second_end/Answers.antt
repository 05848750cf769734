use Rattle.std.proofs.Common.{suc}
use Rattle.lp_core.specs.Fitting.{widest, dearest}
use Rattle.lp_core.proofs.Spare.{CanRun-ready, IsLast-run}
use Rattle.lp_core.proofs.second.second_end.Goals as goal

pub second_start-requires : goal.second_start-requires
second_start-requires c = (c.requires.0, c.args.target.now, c.requires.1)

pub run-requires : goal.run-requires
run-requires c =
    let b = c.requires.0 in
    (b, widest (suc b) c.args.columns.now, dearest c.args.columns.now, CanRun-ready b c.args.columns.now c.args.target.now c.in_ok-stage.stage (c.in_ok-stage.ensures b c.args.target.now c.requires.1))

pub returns : goal.returns
returns c b can =
    let ready = c.in_ok-stage.ensures b c.args.target.now can in
    IsLast-run b c.args.columns.now c.args.target.now c.in_ok-stage.stage c.in_ok-last.last ready
    (c.in_ok-last.ensures b (widest (suc b) c.args.columns.now) (dearest c.args.columns.now) (CanRun-ready b c.args.columns.now c.args.target.now c.in_ok-stage.stage ready))
