use Rattle.std.proofs.Common.{◌≡◌, arith, rules, SFits, to_z}
use Rattle.std.specs.Prelude.{ℤ, pos, ◌+ℤ◌}
use Rattle.std.specs.Int.{w128, int_div_euclid}
use Rattle.std.proofs.lemmas.Int.{ints, to_z-of_z, to_z_pos}
use Rattle.lp_basis.proofs.Summing.{IsPart-from}
use Rattle.lp_basis.proofs.potential.part_of.Goals as goal

pub returns : goal.returns
returns c =
    let fits_number = c.ranges.number in
    let fits_summand = c.ranges.summand in
    let fits_whole : SFits w128 c.floor_quotient-whole.result = search rules in
    let fits_also : SFits w128 c.floor_quotient-also.result = search rules in
    let fits_carried : SFits w128 c.carried.result = search rules in
    let large_is : to_z w128 c.args.large ≡ pos c.args.large = to_z_pos w128 c.args.large (omega (arith, c.requires.large_small)) in
    let own_is : to_z w128 c.args.own ≡ pos c.args.own = to_z_pos w128 c.args.own (omega (arith, c.requires.own_small)) in
    let F : ℤ = int_div_euclid c.args.number (pos c.args.large) in
    let G : ℤ = int_div_euclid c.args.summand (pos c.args.own) in
    let f_is : c.floor_quotient-whole.result ≡ F = simp (to_z-of_z, large_is) at c.floor_quotient-whole.ensures.exact in
    let g_is : c.floor_quotient-also.result ≡ G = simp (to_z-of_z, own_is) at c.floor_quotient-also.ensures.exact in
    let r_is = simp (to_z-of_z, large_is) at c.floor_rest-rest.ensures.exact in
    let l_is = simp (to_z-of_z, own_is) at c.floor_rest-left.ensures.exact in
    let sum_is : c.carried.result ≡ (c.floor_quotient-whole.result +ℤ c.floor_quotient-also.result) +ℤ pos c.joined-carry.result.0 = simp to_z-of_z at c.carried.ensures in
    let w_is : c.carried.result ≡ (F +ℤ G) +ℤ pos c.joined-carry.result.0 = omega (arith, ints, sum_is, f_is, g_is) in
    simp to_z-of_z (IsPart-from c.args.number c.args.summand F G c.carried.result c.args.large c.args.own c.floor_rest-rest.result c.floor_rest-left.result c.joined-carry.result.0 c.joined-carry.result.1 r_is l_is c.joined-carry.ensures.sum w_is c.joined-carry.ensures.below)
