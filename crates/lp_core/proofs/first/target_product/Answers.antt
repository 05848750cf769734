use Rattle.std.proofs.Common.{◌≡◌, ℕ, List, length, rules, SFits, sym, ◌∙◌, ap}
use Rattle.std.specs.Prelude.{ℤ}
use Rattle.std.specs.Int.{w128}
use Rattle.std.proofs.lemmas.Int.{to_z-of_z}
use Rattle.cal_math.specs.Vectors.{at, dot}
use Rattle.lp_basis.specs.Held.{numbers_at}
use Rattle.lp_basis.proofs.Placed.{row_read}
use Rattle.lp_core.proofs.first.target_product.Goals as goal

pub product-requires : goal.product-requires
product-requires c =
    let row_is : numbers_at c.args.rows.now c.args.j ≡ c.deref.result.now = (row_read c.args.rows.now c.args.j c.index-rows-j.result c.requires.within c.index-rows-j.is).0 ∙ sym c.deref.ensures.value in
    let fits = c.requires.meets c.args.j c.requires.within in
    (fits.0, fits.1, rw row_is at fits.2)

pub returns : goal.returns
returns c =
    let row_is : numbers_at c.args.rows.now c.args.j ≡ c.deref.result.now = (row_read c.args.rows.now c.args.j c.index-rows-j.result c.requires.within c.index-rows-j.is).0 ∙ sym c.deref.ensures.value in
    let fits = c.requires.meets c.args.j c.requires.within in
    let same : length c.deref.result.now ≡ length c.args.target.now = ap length (sym row_is) ∙ fits.2.sized in
    let small : SFits w128 c.product.result = search rules in
    simp to_z-of_z (c.product.ensures ∙ ap (λ (n : ℕ). dot n (at c.deref.result.now) (at c.args.target.now)) same ∙ ap (λ (xs : List ℤ). dot (length c.args.target.now) (at xs) (at c.args.target.now)) (sym row_is))
