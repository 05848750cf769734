use Rattle.std.proofs.Common.{arith, ap, ◌∙◌}
use Rattle.eq_text.proofs.Spaced.{first_sublattice, later_sublattice}
use Rattle.eq_text.proofs.write.entry.put_sublattice.Goals as goal
use Rattle.eq_text.proofs.write.entry.put_sublattice.Goals.{then-place-gt0+in_ok-put_word, else-place-gt0}

pub returns : goal.returns
returns c =
    elim c.if-place-gt0.branch [
      | then-place-gt0+in_ok-put_word w ↦ later_sublattice c.args.site.now c.sublattice.result.now c.args.out.now.items c.if-place-gt0.out.items c.put_counts.new.out.items c.args.place w.if-place-gt0.true c.sublattice.ensures (ap (λ v. v.items) w.out-is ∙ w.in_ok-put_word.ensures) c.in_ok-put_counts.ensures
      | else-place-gt0 w ↦ first_sublattice c.args.site.now c.sublattice.result.now c.args.out.now.items c.if-place-gt0.out.items c.put_counts.new.out.items c.args.place (omega (arith, w.if-place-gt0.false)) c.sublattice.ensures (ap (λ v. v.items) w.out-is) c.in_ok-put_counts.ensures
    ]
