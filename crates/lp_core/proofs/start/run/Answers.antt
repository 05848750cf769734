use Rattle.lp_core.proofs.Runs.{start_width, running_from, has_run}
use Rattle.lp_core.proofs.start.run.Goals as goal

pub settled-requires : goal.settled-requires
settled-requires c =
    let are = rw c.deref.ensures.value at c.in_ok-starts.ensures in
    (c.requires.0, c.requires.1, c.requires.2, start_width c.requires.1, rw c.deref-2.ensures.value (running_from c.requires.0 c.requires.1 c.requires.2 c.args.phase c.args.columns.now c.args.target.now c.args.stage c.in_ok-starts.starts.items c.requires.3 are))

pub returns : goal.returns
returns c b w s can =
    let are = rw c.deref.ensures.value at c.in_ok-starts.ensures in
    let done = rw c.deref-2.ensures.value at c.in_ok-end.ensures in
    has_run b w s c.args.phase c.args.columns.now c.args.target.now c.args.stage c.in_ok-end.end c.in_ok-starts.starts.items can are done
