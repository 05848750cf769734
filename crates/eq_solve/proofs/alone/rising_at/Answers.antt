use Rattle.std.proofs.Common.{◌≡◌, ◌^◌, ◌/◌, length, rules, refl, arith, SFits, Some, slice_get}
use Rattle.std.specs.Prelude.{pos}
use Rattle.std.specs.Int.{w128}
use Rattle.std.proofs.lemmas.Int.{ints, to_z-of_z}
use Rattle.std.proofs.lemmas.Option.{slice_get_read}
use Rattle.cal_math.specs.Vectors.{at, dot}
use Rattle.eq_solve.specs.Points.{IsListOf, IsColumnOf}
use Rattle.eq_solve.proofs.Rises.{list_is, product_fits, known_is, none_above}
use Rattle.eq_solve.proofs.alone.rising_at.Goals as goal

pub point_of-requires-clause-list : goal.point_of-requires-clause-list
point_of-requires-clause-list g c =
    let is : slice_get c.args.system.now.phases c.args.place ≡ Some c.index-as_slice-place.result = slice_get_read _ _ _ _ refl c.requires.place (rw c.as_slice.ensures at c.index-as_slice-place.is) in
    let best = rw (c.new.ensures, c.as_slice-2.ensures) at c.in_ok-site.ensures in
    rw c.requires.same (list_is c.args.system.now c.args.place c.index-as_slice-place.result c.args.v.now c.in_ok-site.site best.0 is best.1 best.2)

pub product-requires : goal.product-requires
product-requires g c =
    let is : slice_get c.args.system.now.phases c.args.place ≡ Some c.index-as_slice-place.result = slice_get_read _ _ _ _ refl c.requires.place (rw c.as_slice.ensures at c.index-as_slice-place.is) in
    let best = rw (c.new.ensures, c.as_slice-2.ensures) at c.in_ok-site.ensures in
    let list : IsListOf c.args.system.now c.in_ok-point.point.entry = rw c.in_ok-point.ensures.entry (list_is c.args.system.now c.args.place c.index-as_slice-place.result c.args.v.now c.in_ok-site.site best.0 is best.1 best.2) in
    let column : IsColumnOf c.args.system.now c.in_ok-point.point.entry c.in_ok-point.point.column = rw c.requires.same at c.in_ok-point.ensures.column in
    (2 ^ 116 / c.args.system.now.widest, c.args.system.now.widest, rw c.deref.ensures.value (product_fits c.args.system.now c.args.v.now c.in_ok-point.point.entry c.in_ok-point.point.column c.requires.sized c.requires.small list column))

pub returns-then-product-gt0 : goal.returns-then-product-gt0
returns-then-product-gt0 g c =
    let is : slice_get c.args.system.now.phases c.args.place ≡ Some c.index-as_slice-place.result = slice_get_read _ _ _ _ refl c.requires.place (rw c.as_slice.ensures at c.index-as_slice-place.is) in
    let best = rw (c.new.ensures, c.as_slice-2.ensures) at c.in_ok-site.ensures in
    let list : IsListOf c.args.system.now c.in_ok-point.point.entry = rw c.in_ok-point.ensures.entry (list_is c.args.system.now c.args.place c.index-as_slice-place.result c.args.v.now c.in_ok-site.site best.0 is best.1 best.2) in
    let column : IsColumnOf c.args.system.now c.in_ok-point.point.entry c.in_ok-point.point.column = rw c.requires.same at c.in_ok-point.ensures.column in
    let fits : SFits w128 c.product.result = search rules in
    let above = simp to_z-of_z at c.if-product-gt0.true in
    let value : c.product.result ≡ dot (length c.args.v.now) (at c.args.v.now) (at c.in_ok-point.point.column.amounts.items) = rw c.deref.ensures.value at c.product.ensures in
    known_is c.args.system.now c.args.v.now c.in_ok-point.point.entry c.in_ok-point.point.column c.requires.small list column (rw (← value) (omega (arith, ints, above)))

pub returns-else-product-gt0 : goal.returns-else-product-gt0
returns-else-product-gt0 g c =
    let is : slice_get c.args.system.now.phases c.args.place ≡ Some c.index-as_slice-place.result = slice_get_read _ _ _ _ refl c.requires.place (rw c.as_slice.ensures at c.index-as_slice-place.is) in
    let best = rw (c.new.ensures, c.as_slice-2.ensures) at c.in_ok-site.ensures in
    let column : IsColumnOf c.args.system.now c.in_ok-point.point.entry c.in_ok-point.point.column = rw c.requires.same at c.in_ok-point.ensures.column in
    let here : IsColumnOf c.args.system.now (record { phase = c.args.place; amount = pos 0; site = c.in_ok-site.site }) c.in_ok-point.point.column = rw (← c.in_ok-point.ensures.entry) column in
    let fits : SFits w128 c.product.result = search rules in
    let below = simp to_z-of_z at c.if-product-gt0.false in
    let value : c.product.result ≡ dot (length c.args.v.now) (at c.args.v.now) (at c.in_ok-point.point.column.amounts.items) = rw c.deref.ensures.value at c.product.ensures in
    none_above c.args.system.now c.args.place c.index-as_slice-place.result c.args.v.now c.in_ok-site.site best.0 c.in_ok-point.point.column is best.1 best.2 c.requires.small.one_each here (rw (← value) (omega (arith, ints, below)))
