use Rattle.std.proofs.Common.{arith, sym, ◌∙◌}
use Rattle.std.proofs.lemmas.List.{take_all}
use Rattle.eq_solve.specs.Greatest.{alone}
use Rattle.eq_solve.proofs.Best.{alone_more_yes, alone_more_no, length-alone}
use Rattle.eq_solve.proofs.alone.alone_at.Goals as goal
use Rattle.eq_solve.proofs.alone.alone_at.Goals.{then-k-place, else-k-place}

pub counts-preserved : goal.counts-preserved
counts-preserved c =
    elim c.if-k-place.branch [
      | then-k-place w ↦
          c.in_ok-push.ensures.items ∙ rw (w.push-is, c.counts.invariant) (sym (alone_more_yes c.args.n c.args.place c.args.size c.counts.k c.counts-test.true w.if-k-place.true))
      | else-k-place w ↦
          c.in_ok-push.ensures.items ∙ rw (w.push-is, c.counts.invariant) (sym (alone_more_no c.args.n c.args.place c.args.size c.counts.k c.counts-test.true w.if-k-place.false))
    ]

pub returns : goal.returns
returns c = c.counts.invariant ∙ take_all c.counts.k (alone c.args.n c.args.place c.args.size) (omega (arith, length-alone c.args.n c.args.place c.args.size, c.counts-test.false))
