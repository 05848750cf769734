use Rattle.std.proofs.Common.{◌≡◌, List, [], ◌∷◌, ◌++◌, ap, ◌∙◌}
use Rattle.cef_term.specs.declared.param_term.ParamTerm.{ParamTerm}
use Rattle.mag_tests.proofs.Alloys.{two_of_phase}
use Rattle.mag_tests.proofs.terms.two_terms.Goals as goal

pub returns : goal.returns
returns c =
    let t = c.in_ok-new.field-0 in
    let u = c.in_ok-new-2.field-0 in
    let is : c.push-2.new.self.items ≡ t ∷ u ∷ [] = c.in_ok-push-2.ensures.items ∙ ap (λ (ts : List ParamTerm). ts ++ u ∷ []) (c.in_ok-push.ensures.items ∙ ap (λ (ts : List ParamTerm). ts ++ t ∷ []) c.new-terms.ensures.items) in
    two_of_phase c.args.phase.now c.args.first c.args.second t u c.push-2.new.self.items c.in_ok-new.ensures.0 c.in_ok-new-2.ensures.0 c.in_ok-new.ensures.1 c.in_ok-new-2.ensures.1 is
