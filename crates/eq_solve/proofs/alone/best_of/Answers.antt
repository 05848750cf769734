use Rattle.std.proofs.Common.{◌<◌, length, arith}
use Rattle.eq_solve.proofs.Best.{best_takes, best_keeps, any_read}
use Rattle.eq_solve.proofs.alone.best_of.Goals as goal
use Rattle.eq_solve.proofs.alone.best_of.Goals.{then-exceeds, else-exceeds}

pub sites-preserved : goal.sites-preserved
sites-preserved c =
    let v = c.args.v.now in
    let sites = c.args.sites.now in
    let before : c.sites.best < length sites = omega (arith, c.sites.invariant.before, c.sites-test.true) in
    elim c.if-exceeds.branch [
      | then-exceeds w ↦ rw w.best-is (best_takes v sites c.sites.best c.sites.place c.sites-test.true (any_read v sites c.sites.best c.sites.place before c.sites-test.true w.if-exceeds.ensures.yes) c.sites.invariant)
      | else-exceeds w ↦ rw w.best-is (best_keeps v sites c.sites.best c.sites.place c.sites-test.true (any_read v sites c.sites.place c.sites.best c.sites-test.true before w.if-exceeds.ensures.no) c.sites.invariant)
    ]
