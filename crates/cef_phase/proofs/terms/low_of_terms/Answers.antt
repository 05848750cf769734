use Rattle.std.proofs.Common.{rules, ◌≡◌, Some, slice_get, SFits, refl, to_z}
use Rattle.std.specs.Prelude.{◌+ℤ◌}
use Rattle.std.specs.Int.{w128}
use Rattle.std.proofs.lemmas.Int.{to_z-of_z}
use Rattle.std.proofs.lemmas.Option.{slice_get_read}
use Rattle.cef_term.specs.Bounds.{parameter_low}
use Rattle.cef_phase.proofs.Adding.{low-more, low_fits}
use Rattle.cef_phase.proofs.terms.low_of_terms.Goals as goal

pub plus-total-requires : goal.plus-total-requires
plus-total-requires c =
    let fits : SFits w128 c.low.result = search rules in
    let at_it : slice_get c.args.terms.now c.each.term-index ≡ Some c.term-item.result = slice_get_read _ _ _ _ refl c.each-test.true c.term-item.is in
    simp to_z-of_z (low_fits (λ t. parameter_low t.phase.now.lattice t.parameter.now c.args.range.now) c.args.terms.now c.each.term-index (to_z w128 c.each.total-bits) c.low.result c.term-item.result c.each.invariant at_it c.low.ensures.size c.requires.small)

pub each-preserved : goal.each-preserved
each-preserved c =
    let fits : SFits w128 c.low.result = search rules in
    let fits_total : SFits w128 c.plus-total.result = search rules in
    let at_it : slice_get c.args.terms.now c.each.term-index ≡ Some c.term-item.result = slice_get_read _ _ _ _ refl c.each-test.true c.term-item.is in
    let more : c.plus-total.result ≡ to_z w128 c.each.total-bits +ℤ c.low.result = simp to_z-of_z at c.plus-total.ensures in
    simp to_z-of_z (low-more (λ t. parameter_low t.phase.now.lattice t.parameter.now c.args.range.now) c.args.terms.now c.each.term-index (to_z w128 c.each.total-bits) c.plus-total.result c.low.result c.term-item.result c.each.invariant at_it c.low.ensures.exact c.low.ensures.size more)
