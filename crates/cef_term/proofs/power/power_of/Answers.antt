use Rattle.std.proofs.Common.{rules, arith, refl, SFits, ◌∙◌}
use Rattle.std.specs.Int.{w64}
use Rattle.std.proofs.lemmas.Int.{to_z-of_z}
use Rattle.cef_term.proofs.Roomy.{step_room, power_more}
use Rattle.cef_term.proofs.power.power_of.Goals as goal

pub steps-init : goal.steps-init
steps-init c = refl

pub product-total-requires : goal.product-total-requires
product-total-requires c =
    let fits_base = c.ranges.base in
    simp (to_z-of_z, c.steps.invariant) (omega (arith, step_room c.args.base c.args.order c.steps.step c.requires c.steps-test.true))

pub steps-preserved : goal.steps-preserved
steps-preserved c =
    let fits_base = c.ranges.base in
    let fits : SFits w64 c.product-total.result = search rules in
    let is = simp (to_z-of_z, c.steps.invariant) at c.product-total.ensures in
    simp to_z-of_z (is ∙ power_more c.args.base c.steps.step)
