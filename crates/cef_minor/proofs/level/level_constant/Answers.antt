use Rattle.std.proofs.Common.{rules, arith, ◌≡◌, ◌*◌, ◌≤◌, pos, ◌*ℤ◌, length, to_z, of_z, ap, sym, ◌∙◌, unsigned_abs}
use Rattle.std.specs.Int.{w128}
use Rattle.cef_minor.proofs.Levels.{micro_q_fits, value_fits}
use Rattle.cef_minor.proofs.level.level_constant.Goals as goal

pub times-numerator-requires : goal.times-numerator-requires
times-numerator-requires c =
    let micro_is : to_z w128 (of_z w128 c.args.frame.micro) ≡ c.args.frame.micro = search rules in
    let q_is : to_z w128 (of_z w128 c.q_at_lows.result) ≡ c.q_at_lows.result = search rules in
    rw (micro_is, q_is) (micro_q_fits c.args.frame.micro c.q_at_lows.result c.args.frame.den c.requires.frame_keeps.micro c.q_at_lows.ensures.size c.requires.frame_keeps.den_high)

pub times-requires : goal.times-requires
times-requires c =
    let micro_is : to_z w128 (of_z w128 c.args.frame.micro) ≡ c.args.frame.micro = search rules in
    let q_is : to_z w128 (of_z w128 c.q_at_lows.result) ≡ c.q_at_lows.result = search rules in
    let numerator_is : to_z w128 (of_z w128 c.times-numerator.result) ≡ c.times-numerator.result = search rules in
    let value_held : to_z w128 (of_z w128 c.whole_part.result) ≡ c.whole_part.result = search rules in
    let product = rw (micro_is, q_is) at c.times-numerator.ensures in
    let value = rw (numerator_is, product) at c.whole_part.ensures in
    rw value_held (value_fits c.args.frame.micro c.q_at_lows.result c.whole_part.result c.args.frame.den value c.requires.frame_keeps.den_low c.requires.frame_keeps.micro c.q_at_lows.ensures.size)
