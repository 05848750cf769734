use Rattle.cef_phase.proofs.Adding.{is_sum}
use Rattle.cef_phase.proofs.Raising.{has_planes}
use Rattle.cef_phase.proofs.sum_phase.SumPhase.build.Goals as goal

pub invariant_of-result : goal.invariant_of-result
invariant_of-result c =
    record {
      valid = is_sum c.args.phase.now c.in_ok-terms.terms.items c.in_ok-magnetism.magnetism c.in_ok-mix.mix c.requires.fine c.in_ok-terms.ensures c.in_ok-magnetism.ensures c.in_ok-mix.ensures;
      planes = has_planes c.args.phase.now c.in_ok-affine.affine.items c.in_ok-others.others.items c.in_ok-magnetism.magnetism c.requires.fine c.in_ok-affine.ensures c.in_ok-others.ensures c.in_ok-magnetism.ensures;
    }
