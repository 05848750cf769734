use Rattle.std.proofs.Common.{◌≡◌, arith, rules, SFits, pos, ◌*ℤ◌, ◌<ℤ◌}
use Rattle.std.specs.Prelude.{unsigned_abs}
use Rattle.std.specs.Int.{w128, int_div_euclid}
use Rattle.std.proofs.lemmas.Int.{ints, to_z-of_z}
use Rattle.cal_whole.proofs.Ratios.{whole_less_from_floor, whole_rests, IsOrderedSigned-moved}
use Rattle.cal_whole.proofs.ratio.compare_signed_ratios.Goals as goal

pub returns-then-left-right : goal.returns-then-left-right
returns-then-left-right c =
    let fits_a = c.ranges.a in
    let fits_b = c.ranges.b in
    let fits_c = c.ranges.c in
    let fits_d = c.ranges.d in
    let fits_left : SFits w128 c.floor_quotient-left.result = search rules in
    let fits_right : SFits w128 c.floor_quotient-right.result = search rules in
    let left = simp to_z-of_z at c.floor_quotient-left.ensures.exact in
    let right = simp to_z-of_z at c.floor_quotient-right.ensures.exact in
    let less : int_div_euclid c.args.a c.args.b <ℤ int_div_euclid c.args.c c.args.d = omega (arith, ints, c.if-left-right.true, left, right) in
    whole_less_from_floor _ _ _ _ c.requires.first c.requires.second less

pub returns-then-right-left : goal.returns-then-right-left
returns-then-right-left c =
    let fits_a = c.ranges.a in
    let fits_b = c.ranges.b in
    let fits_c = c.ranges.c in
    let fits_d = c.ranges.d in
    let left = simp to_z-of_z at c.floor_quotient-left.ensures.exact in
    let right = simp to_z-of_z at c.floor_quotient-right.ensures.exact in
    let less : int_div_euclid c.args.c c.args.d <ℤ int_div_euclid c.args.a c.args.b = omega (arith, ints, c.if-right-left.true, left, right) in
    whole_less_from_floor _ _ _ _ c.requires.second c.requires.first less

pub returns-else-right-left : goal.returns-else-right-left
returns-else-right-left c =
    let fits_a = c.ranges.a in
    let fits_b = c.ranges.b in
    let fits_c = c.ranges.c in
    let fits_d = c.ranges.d in
    let left = simp to_z-of_z at c.floor_quotient-left.ensures.exact in
    let right = simp to_z-of_z at c.floor_quotient-right.ensures.exact in
    let same : int_div_euclid c.args.a c.args.b ≡ int_div_euclid c.args.c c.args.d = omega (arith, ints, c.if-left-right.false, c.if-right-left.false, left, right) in
    let r_is = simp to_z-of_z at c.floor_rest.ensures.exact in
    let s_is = simp to_z-of_z at c.floor_rest-else-right-left.ensures.exact in
    let b_is : c.args.b ≡ pos (unsigned_abs c.args.b) = omega (arith, ints, c.requires.first) in
    let d_is : c.args.d ≡ pos (unsigned_abs c.args.d) = omega (arith, ints, c.requires.second) in
    let both = whole_rests c.args.a c.args.b c.args.c c.args.d c.floor_rest.result c.floor_rest-else-right-left.result _ _ b_is d_is same r_is s_is in
    IsOrderedSigned-moved c.compare_ratios.result _ _ _ _ (c.args.b *ℤ int_div_euclid c.args.a c.args.b *ℤ c.args.d) both.0 both.1 (simp to_z-of_z at c.compare_ratios.ensures)
