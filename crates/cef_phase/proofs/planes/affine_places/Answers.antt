use Rattle.std.proofs.Common.{◌≡◌, sym, ◌∙◌}
use Rattle.cef_minor.specs.Forms.{is_affine}
use Rattle.cef_phase.proofs.Raising.{parameter_there, affine-kept, affine-left}
use Rattle.cef_phase.proofs.planes.affine_places.Goals as goal
use Rattle.cef_phase.proofs.planes.affine_places.Goals.{then-affine+in_ok-push, else-affine}

pub each-preserved : goal.each-preserved
each-preserved c =
    let phase = c.args.phase.now in
    let here = parameter_there phase.parameters c.parameters-index-end.result.now c.each.index c.parameters-index-end.ensures c.each-test.true in
    let told : c.affine.result ≡ is_affine here.0 = c.affine.ensures here.0 here.1 in
    elim c.if-affine.branch [
      | then-affine+in_ok-push w ↦ rw w.places-is
          (affine-kept phase c.each.index c.each.places.items _ here.0 c.each.invariant here.1 (sym told ∙ w.if-affine.true) w.in_ok-push.ensures.items)
      | else-affine w ↦ rw w.places-is
          (affine-left phase c.each.index c.each.places.items here.0 c.each.invariant here.1 (sym told ∙ w.if-affine.false))
    ]
