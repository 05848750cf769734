use Rattle.std.proofs.Common.{rules, ◌≡◌, Some, slice_get, SFits, refl, to_z}
use Rattle.std.specs.Prelude.{◌+ℤ◌}
use Rattle.std.specs.Int.{w128}
use Rattle.std.proofs.lemmas.Int.{to_z-of_z}
use Rattle.std.proofs.lemmas.Option.{slice_get_read}
use Rattle.cef_mag.proofs.Adding.{sum-more, sum_fits}
use Rattle.cef_mag.proofs.sums.sum_of_highs.Goals as goal

pub plus-total-requires : goal.plus-total-requires
plus-total-requires g c =
    let fits : SFits w128 c.high.result = search rules in
    let at_it : slice_get c.args.terms.now c.each.term-index ≡ Some c.term-item.result = slice_get_read _ _ _ _ refl c.each-test.true c.term-item.is in
    simp to_z-of_z (sum_fits (λ t. g.T.Term.high_over t c.args.range.now) g.T.Term.most c.args.terms.now c.each.term-index (to_z w128 c.each.total-bits) c.high.result c.term-item.result c.each.invariant at_it c.high.ensures.size c.requires.small)

pub each-preserved : goal.each-preserved
each-preserved g c =
    let fits : SFits w128 c.high.result = search rules in
    let fits_total : SFits w128 c.plus-total.result = search rules in
    let at_it : slice_get c.args.terms.now c.each.term-index ≡ Some c.term-item.result = slice_get_read _ _ _ _ refl c.each-test.true c.term-item.is in
    let more : c.plus-total.result ≡ to_z w128 c.each.total-bits +ℤ c.high.result = simp to_z-of_z at c.plus-total.ensures in
    simp to_z-of_z (sum-more (λ t. g.T.Term.high_over t c.args.range.now) g.T.Term.most c.args.terms.now c.each.term-index (to_z w128 c.each.total-bits) c.plus-total.result c.high.result c.term-item.result c.each.invariant at_it c.high.ensures.exact c.high.ensures.size more)
