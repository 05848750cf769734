use Rattle.std.proofs.Common.{◌≡◌, List, length, rules, SFits, ap, sym, ◌∙◌}
use Rattle.std.specs.Prelude.{ℤ}
use Rattle.std.specs.Int.{w128}
use Rattle.std.proofs.lemmas.Int.{to_z-of_z}
use Rattle.cal_math.specs.Vectors.{at, dot}
use Rattle.lp_stage.specs.Leaving.{amounts_at}
use Rattle.lp_stage.proofs.RatioTest.{amounts_read}
use Rattle.eq_solve.proofs.figure.value_at.Goals as goal

pub product-requires : goal.product-requires
product-requires c =
    let column_is : amounts_at c.args.columns.now c.args.place ≡ c.deref.result.now = amounts_read c.args.columns.now c.args.place c.index-columns-place.result c.requires.place c.index-columns-place.is ∙ sym c.deref.ensures.value in
    let fits = c.requires.fits in
    (fits.0, fits.1, rw column_is at fits.2)

pub returns : goal.returns
returns c =
    let column_is : amounts_at c.args.columns.now c.args.place ≡ c.deref.result.now = amounts_read c.args.columns.now c.args.place c.index-columns-place.result c.requires.place c.index-columns-place.is ∙ sym c.deref.ensures.value in
    let small : SFits w128 c.product.result = search rules in
    simp to_z-of_z (c.product.ensures ∙ ap (λ (xs : List ℤ). dot (length c.args.potentials.now) (at c.args.potentials.now) (at xs)) (sym column_is))
