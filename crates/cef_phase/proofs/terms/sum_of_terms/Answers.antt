use Rattle.std.proofs.Common.{rules, ◌≡◌, ◌≤◌, ◌<◌, ◌^◌, Some, slice_get, SFits, arith, refl, to_z}
use Rattle.std.specs.Prelude.{unsigned_abs, ◌+ℤ◌}
use Rattle.std.specs.Int.{w128}
use Rattle.std.proofs.lemmas.Int.{to_z-of_z}
use Rattle.std.proofs.lemmas.Option.{slice_get_read}
use Rattle.cal_limits.specs.declared.TheConstants.{MOST_ENERGY}
use Rattle.cef_core.specs.Parameters.{parameter_value}
use Rattle.cef_phase.proofs.Adding.{sum-more, term_small, total_fits}
use Rattle.cef_phase.proofs.terms.sum_of_terms.Goals as goal

pub plus-total-requires : goal.plus-total-requires
plus-total-requires c =
    let fits : SFits w128 c.value.result = search rules in
    let few : c.each.term-index < 2 ^ 64 = omega (arith, c.each-test.true, c.each.auto.term-index-end) in
    simp to_z-of_z (total_fits (to_z w128 c.each.total-bits) c.value.result c.each.term-index few c.each.invariant.size (term_small c.term-item.result c.value.result c.value.ensures.size))

pub each-preserved : goal.each-preserved
each-preserved c =
    let fits : SFits w128 c.value.result = search rules in
    let fits_total : SFits w128 c.plus-total.result = search rules in
    let at_it : slice_get c.args.terms.now c.each.term-index ≡ Some c.term-item.result = slice_get_read _ _ _ _ refl c.each-test.true c.term-item.is in
    let small : unsigned_abs c.value.result ≤ MOST_ENERGY = term_small c.term-item.result c.value.result c.value.ensures.size in
    let more : c.plus-total.result ≡ to_z w128 c.each.total-bits +ℤ c.value.result = simp to_z-of_z at c.plus-total.ensures in
    simp to_z-of_z (sum-more (λ t. parameter_value t.phase.now.lattice t.parameter.now c.args.site.now) c.args.terms.now c.each.term-index (to_z w128 c.each.total-bits) c.plus-total.result c.value.result c.term-item.result c.each.invariant at_it c.value.ensures.exact small more)
