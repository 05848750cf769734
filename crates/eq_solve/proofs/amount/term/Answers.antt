use Rattle.std.proofs.Common.{◌≡◌, ◌<◌, length, rules, SFits, ap, arith}
use Rattle.std.specs.Prelude.{pos, ◌*ℤ◌}
use Rattle.std.specs.Int.{w128}
use Rattle.std.proofs.lemmas.Int.{to_z-of_z}
use Rattle.std.proofs.lemmas.List.{get_or_read}
use Rattle.cal_math.specs.Vectors.{at}
use Rattle.lp_stage.specs.Leaving.{amounts_at}
use Rattle.lp_stage.proofs.RatioTest.{amounts_read}
use Rattle.eq_solve.proofs.amount.term.Goals as goal

pub index-requires : goal.index-requires
index-requires c =
    let column_is : amounts_at c.args.columns.now c.args.place ≡ c.index-columns-place.result.amounts.items = amounts_read c.args.columns.now c.args.place c.index-columns-place.result c.requires.place c.index-columns-place.is in
    omega (arith, c.requires.component, ap length column_is, c.index-columns-place.result.amounts.ok.0)

pub overflow_mul-result : goal.overflow_mul-result
overflow_mul-result c =
    let fits_amount = c.ranges.amount in
    let column_is : amounts_at c.args.columns.now c.args.place ≡ c.index-columns-place.result.amounts.items = amounts_read c.args.columns.now c.args.place c.index-columns-place.result c.requires.place c.index-columns-place.is in
    let within : c.args.component < length c.index-columns-place.result.amounts.items = omega (arith, c.requires.component, ap length column_is) in
    let read : c.index.result.now ≡ at c.index-columns-place.result.amounts.items c.args.component = get_or_read c.index-columns-place.result.amounts.items _ _ within c.index.ensures (pos 0) in
    let fits_number : SFits w128 c.index.result.now = search rules in
    simp to_z-of_z (rw (read, ← column_is) c.requires.fits)

pub returns : goal.returns
returns c =
    let fits_amount = c.ranges.amount in
    let column_is : amounts_at c.args.columns.now c.args.place ≡ c.index-columns-place.result.amounts.items = amounts_read c.args.columns.now c.args.place c.index-columns-place.result c.requires.place c.index-columns-place.is in
    let within : c.args.component < length c.index-columns-place.result.amounts.items = omega (arith, c.requires.component, ap length column_is) in
    let read : c.index.result.now ≡ at c.index-columns-place.result.amounts.items c.args.component = get_or_read c.index-columns-place.result.amounts.items _ _ within c.index.ensures (pos 0) in
    let fits_number : SFits w128 c.index.result.now = search rules in
    let is : c.index.result.now ≡ at (amounts_at c.args.columns.now c.args.place) c.args.component = rw column_is read in
    let fits : SFits w128 (c.args.amount *ℤ c.index.result.now) = rw is c.requires.fits in
    simp to_z-of_z (ap (λ z. c.args.amount *ℤ z) is)
