use Rattle.std.proofs.Common.{◌≡◌, ◌+◌, ◌*◌, ◌≤◌, rules, SFits, arith}
use Rattle.std.specs.Prelude.{unsigned_abs}
use Rattle.std.specs.Int.{w128}
use Rattle.std.proofs.lemmas.Int.{to_z-of_z}
use Rattle.cal_limits.specs.declared.TheConstants.{MOST_CURIE, MOST_MOMENT}
use Rattle.cal_math.specs.Sums.{sum_of}
use Rattle.cef_core.specs.Magnetism.{magnetic_at}
use Rattle.cef_mag.specs.Laws.{magnetic_size}
use Rattle.cef_mag.specs.Sums.{most_of}
use Rattle.cef_mag.proofs.mag_term.MagTermTerm.value.Goals as goal

pub returns : goal.returns
returns g c =
    let m = c.args.self.now in
    let x = c.sum_of_values-curie.result in
    let y = c.sum_of_values-moment.result in
    let fits : SFits w128 c.energy.result = search rules in
    let fits_x : SFits w128 x = search rules in
    let fits_y : SFits w128 y = search rules in
    let is : c.energy.result ≡ magnetic_at m.magnet.branches.t m.magnet.scale m.magnet.factor m.magnet.branches.p4 x y = simp to_z-of_z at c.energy.ensures in
    let of_phase : c.energy.result ≡ magnetic_at m.phase.now.t m.phase.now.scale m.magnetic.now.factor m.magnetic.now.p4 x y = rw (m.t_is, m.scale_is, m.factor_is, m.p_is) at is in
    let x_is : x ≡ sum_of (λ t. g.T.Term.value_at t c.args.site.now) m.curie.items = rw c.as_slice.ensures.value at c.sum_of_values-curie.ensures.exact in
    let y_is : y ≡ sum_of (λ t. g.T.Term.value_at t c.args.site.now) m.moment.items = rw c.as_slice-2.ensures.value at c.sum_of_values-moment.ensures.exact in
    let x_most : unsigned_abs x ≤ most_of g.T.Term.most m.curie.items = rw c.as_slice.ensures.value at c.sum_of_values-curie.ensures.size in
    let y_most : unsigned_abs y ≤ most_of g.T.Term.most m.moment.items = rw c.as_slice-2.ensures.value at c.sum_of_values-moment.ensures.size in
    let x_small : unsigned_abs x ≤ MOST_CURIE = omega (arith, x_most, m.curies.small) in
    let y_small : unsigned_abs y ≤ MOST_MOMENT = omega (arith, y_most, m.moments.small) in
    let size : unsigned_abs c.energy.result ≤ 1000000 * m.phase.now.scale * (m.phase.now.t + 1000000) = rw of_phase (magnetic_size m.phase.now.t m.phase.now.scale m.magnetic.now.factor m.magnetic.now.p4 x y m.has.coldest m.has.least_p m.has.greatest_p x_small y_small) in
    record {
      exact = simp to_z-of_z (rw (x_is, y_is) at of_phase);
      size = simp to_z-of_z size;
    }
