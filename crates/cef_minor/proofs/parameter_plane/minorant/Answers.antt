use Rattle.std.proofs.Common.{rules, ◌≡◌, ◌+ℤ◌, Some, slice_get, slice_index_or, pos, to_z, of_z, ap, sym, ◌∙◌}
use Rattle.std.specs.Int.{w128}
use Rattle.cef_core.specs.declared.phase.ParamAt.{ParamAt}
use Rattle.cef_term.proofs.Given.{got, micro_small}
use Rattle.cef_minor.specs.Forms.{plane_at}
use Rattle.cef_minor.proofs.parameter_plane.minorant.Goals as goal

same_parameter : (q p : ParamAt) → Some q ≡ Some p → q ≡ p
same_parameter q p e = cc

pub raise_parameter-requires-clause-micro : goal.raise_parameter-requires-clause-micro
raise_parameter-requires-clause-micro c =
    let here : slice_get c.args.phase.now.parameters c.args.index ≡ Some c.index-parameters-index.result = got c.args.phase.now.parameters c.args.index c.index-parameters-index.result c.requires.index (rw c.parameters.ensures at c.index-parameters-index.is) in
    micro_small c.args.phase.now c.args.index c.index-parameters-index.result c.requires.fine here

pub returns-clause-constant : goal.returns-clause-constant
returns-clause-constant c =
    let here : slice_get c.args.phase.now.parameters c.args.index ≡ Some c.index-parameters-index.result = got c.args.phase.now.parameters c.args.index c.index-parameters-index.result c.requires.index (rw c.parameters.ensures at c.index-parameters-index.is) in
    let out_is : to_z w128 (of_z w128 c.raise_parameter.result) ≡ c.raise_parameter.result = search rules in
    λ p e. out_is ∙ c.raise_parameter.ensures.constant ∙ ap (λ (q : ParamAt). (plane_at c.args.phase.now q c.args.range.now).constant) (same_parameter c.index-parameters-index.result p (sym here ∙ e))

pub returns-clause-slopes : goal.returns-clause-slopes
returns-clause-slopes c =
    let here : slice_get c.args.phase.now.parameters c.args.index ≡ Some c.index-parameters-index.result = got c.args.phase.now.parameters c.args.index c.index-parameters-index.result c.requires.index (rw c.parameters.ensures at c.index-parameters-index.is) in
    λ p e i. c.raise_parameter.ensures.slopes i ∙ ap (λ (q : ParamAt). slice_index_or c.args.slopes.now i (pos 0) +ℤ (plane_at c.args.phase.now q c.args.range.now).slope i) (same_parameter c.index-parameters-index.result p (sym here ∙ e))
