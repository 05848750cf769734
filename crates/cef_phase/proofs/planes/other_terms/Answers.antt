use Rattle.std.proofs.Common.{◌≡◌, sym, ◌∙◌}
use Rattle.cef_phase.specs.Affine.{has_no_plane}
use Rattle.cef_phase.proofs.Raising.{parameter_there, others-kept, others-left}
use Rattle.cef_phase.proofs.planes.other_terms.Goals as goal
use Rattle.cef_phase.proofs.planes.other_terms.Goals.{then-has_no_plane+in_ok-new+in_ok-push, else-has_no_plane}

pub each-preserved : goal.each-preserved
each-preserved c =
    let phase = c.args.phase.now in
    let here = parameter_there phase.parameters c.parameters-index-end.result.now c.each.index c.parameters-index-end.ensures c.each-test.true in
    let told : c.has_no_plane.result ≡ has_no_plane here.0 = c.has_no_plane.ensures here.0 here.1 in
    elim c.if-has_no_plane.branch [
      | then-has_no_plane+in_ok-new+in_ok-push w ↦
          rw w.terms-is (others-kept phase c.each.index c.each.terms.items _ here.0 _ c.each.invariant here.1
          (sym told ∙ w.if-has_no_plane.true) w.in_ok-new.ensures.0
          w.in_ok-new.ensures.1 w.in_ok-push.ensures.items)
      | else-has_no_plane w ↦ rw w.terms-is
          (others-left phase c.each.index c.each.terms.items here.0 c.each.invariant here.1 (sym told ∙ w.if-has_no_plane.false))
    ]
