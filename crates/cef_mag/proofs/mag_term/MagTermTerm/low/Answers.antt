use Rattle.std.proofs.Common.{◌≡◌, ◌+◌, ◌*◌, ◌≤◌, rules, SFits, arith}
use Rattle.std.specs.Prelude.{unsigned_abs}
use Rattle.std.specs.Int.{w128}
use Rattle.std.proofs.lemmas.Int.{to_z-of_z}
use Rattle.cal_limits.specs.declared.TheConstants.{MOST_CURIE, MOST_MOMENT}
use Rattle.cal_math.specs.Sums.{sum_of}
use Rattle.cef_mag.specs.Ranges.{magnetic_low}
use Rattle.cef_mag.specs.Laws.{magnetic_low_size}
use Rattle.cef_mag.specs.Sums.{most_of}
use Rattle.cef_mag.proofs.mag_term.MagTermTerm.low.Goals as goal

pub returns : goal.returns
returns g c =
    let m = c.args.self.now in
    let x1 = c.sums_over-curie.result.low in
    let x2 = c.sums_over-curie.result.high in
    let y1 = c.sums_over-moment.result.low in
    let y2 = c.sums_over-moment.result.high in
    let fits : SFits w128 c.low.result = search rules in
    let is : c.low.result ≡ magnetic_low m.magnet.branches.t m.magnet.scale m.magnet.factor m.magnet.branches.p4 x1 x2 y1 y2 = c.low.ensures in
    let of_phase : c.low.result ≡ magnetic_low m.phase.now.t m.phase.now.scale m.magnetic.now.factor m.magnetic.now.p4 x1 x2 y1 y2 = rw (m.t_is, m.scale_is, m.factor_is, m.p_is) at is in
    let x1_is : x1 ≡ sum_of (λ t. g.T.Term.low_over t c.args.range.now) m.curie.items = rw c.as_slice.ensures.value at c.sums_over-curie.ensures.low in
    let x1_most : unsigned_abs x1 ≤ most_of g.T.Term.most m.curie.items = rw c.as_slice.ensures.value at c.sums_over-curie.ensures.low_size in
    let x1_small : unsigned_abs x1 ≤ MOST_CURIE = omega (arith, x1_most, m.curies.small) in
    let x2_is : x2 ≡ sum_of (λ t. g.T.Term.high_over t c.args.range.now) m.curie.items = rw c.as_slice.ensures.value at c.sums_over-curie.ensures.high in
    let x2_most : unsigned_abs x2 ≤ most_of g.T.Term.most m.curie.items = rw c.as_slice.ensures.value at c.sums_over-curie.ensures.high_size in
    let x2_small : unsigned_abs x2 ≤ MOST_CURIE = omega (arith, x2_most, m.curies.small) in
    let y1_is : y1 ≡ sum_of (λ t. g.T.Term.low_over t c.args.range.now) m.moment.items = rw c.as_slice-2.ensures.value at c.sums_over-moment.ensures.low in
    let y1_most : unsigned_abs y1 ≤ most_of g.T.Term.most m.moment.items = rw c.as_slice-2.ensures.value at c.sums_over-moment.ensures.low_size in
    let y1_small : unsigned_abs y1 ≤ MOST_MOMENT = omega (arith, y1_most, m.moments.small) in
    let y2_is : y2 ≡ sum_of (λ t. g.T.Term.high_over t c.args.range.now) m.moment.items = rw c.as_slice-2.ensures.value at c.sums_over-moment.ensures.high in
    let y2_most : unsigned_abs y2 ≤ most_of g.T.Term.most m.moment.items = rw c.as_slice-2.ensures.value at c.sums_over-moment.ensures.high_size in
    let y2_small : unsigned_abs y2 ≤ MOST_MOMENT = omega (arith, y2_most, m.moments.small) in
    let size : unsigned_abs c.low.result ≤ 1000000 * m.phase.now.scale * (m.phase.now.t + 1000000) = rw of_phase (magnetic_low_size m.phase.now.t m.phase.now.scale m.magnetic.now.factor m.magnetic.now.p4 x1 x2 y1 y2 m.has.coldest m.has.factor m.has.least_p m.has.greatest_p x1_small x2_small y1_small y2_small) in
    record {
      exact = simp to_z-of_z (rw (x1_is, x2_is, y1_is, y2_is) at of_phase);
      size = simp to_z-of_z size;
    }
