use Rattle.std.proofs.Common.{suc, ◌*◌, ◌^◌}
use Rattle.lp_stage.proofs.Improvement.{fits_price, can_step, step_gives}
use Rattle.lp_stage.proofs.improving.improved.Goals as goal

pub entering-found-requires : goal.entering-found-requires
entering-found-requires c =
    let run = c.requires.4 in
    (3 * suc c.requires.0 * c.requires.2 * c.requires.1 ^ c.requires.0, c.requires.1, rw c.deref.ensures.value (fits_price c.requires.0 c.requires.1 c.requires.2 c.requires.3 c.args.phase c.args.columns.now c.args.starts.now c.args.stage.now run))

pub stepped-requires : goal.stepped-requires
stepped-requires c =
    let run = c.requires.4 in
    (c.requires.0, c.requires.1, c.requires.2, c.requires.3, rw (c.deref-in-Some.ensures.value, c.deref-in-Some-2.ensures.value) (can_step c.requires.0 c.requires.1 c.requires.2 c.requires.3 c.args.phase c.args.columns.now c.args.starts.now c.args.stage.now c.in-Some.k run c.in-Some.ensures.within))

pub returns-in_ok-next-in-Some : goal.returns-in_ok-next-in-Some
returns-in_ok-next-in-Some c b w s v run =
    let enters = rw (c.deref.ensures.value, run.potentials.sized) at c.in-Some.ensures in
    let step = rw (c.deref-in-Some.ensures.value, c.deref-in-Some-2.ensures.value) at c.in_ok-next-in-Some.ensures in
    step_gives b w s v c.args.phase c.args.columns.now c.args.starts.now c.args.stage.now c.in-Some.k c.in_ok-next-in-Some.next run enters
    (step b w s v (can_step b w s v c.args.phase c.args.columns.now c.args.starts.now c.args.stage.now c.in-Some.k run c.in-Some.ensures.within))
