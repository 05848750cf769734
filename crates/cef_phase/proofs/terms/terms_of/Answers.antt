use Rattle.std.proofs.Common.{◌≡◌, ◌<◌, Some, slice_get, length, true, false, sym, ap, ◌∙◌, refl, subst, arith}
use Rattle.std.proofs.lemmas.Option.{slice_get_read}
use Rattle.cef_core.specs.declared.phase.ParamAt.{ParamAt}
use Rattle.cef_core.specs.Phases.{of_kind}
use Rattle.cef_phase.proofs.Adding.{terms-kept, terms-left}
use Rattle.cef_phase.proofs.terms.terms_of.Goals as goal
use Rattle.cef_phase.proofs.terms.terms_of.Goals.{then-is_of+in_ok-new+in_ok-push, else-is_of}

pub each-preserved : goal.each-preserved
each-preserved c =
    let phase = c.args.phase.now in
    let is_kind = of_kind c.args.kind in
    let p = c.index-parameters-index.result in
    let within : c.each.index < length c.parameters.result.now = omega (arith, c.each-test.true, c.each.auto.index-end, ap length c.parameters-index-end.ensures, ap length c.parameters.ensures) in
    let here : slice_get phase.parameters c.each.index ≡ Some p = rw c.parameters.ensures at (slice_get_read _ _ _ _ refl within c.index-parameters-index.is) in
    elim c.if-is_of.branch [
      | then-is_of+in_ok-new+in_ok-push w ↦
          let yes_it : is_kind p.kind ≡ true = subst (λ (q : ParamAt). is_kind q.kind ≡ true) (sym c.index-parameters-index.is) (sym c.is_of.ensures ∙ w.if-is_of.true) in
          rw w.terms-is (terms-kept is_kind phase c.each.index c.each.terms.items _ p _ c.each.invariant here yes_it w.in_ok-new.ensures.0 w.in_ok-new.ensures.1 w.in_ok-push.ensures.items)
      | else-is_of w ↦
          let no_it : is_kind p.kind ≡ false = subst (λ (q : ParamAt). is_kind q.kind ≡ false) (sym c.index-parameters-index.is) (sym c.is_of.ensures ∙ w.if-is_of.false) in
          rw w.terms-is (terms-left is_kind phase c.each.index c.each.terms.items p c.each.invariant here no_it)
    ]
