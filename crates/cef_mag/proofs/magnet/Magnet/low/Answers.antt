use Rattle.std.proofs.Common.{rules, SFits}
use Rattle.std.specs.Int.{w128}
use Rattle.std.proofs.lemmas.Int.{to_z-of_z}
use Rattle.cef_mag.proofs.Energies.{HasRoom, least_of_sums-room}
use Rattle.cef_mag.proofs.magnet.Magnet.low.Goals as goal

pub least_energy-requires-clause-size : goal.least_energy-requires-clause-size
least_energy-requires-clause-size c =
    let u = c.least_u-u.result in
    let fits : SFits w128 u = search rules in
    let m = c.args.self.now in
    let curie = c.args.curie in
    let theta = c.moments_of-theta in
    let room : HasRoom m.branches.t m.branches.p4 m.factor curie.low curie.high = record {
      coldest = m.branches.coldest;
      hottest = m.branches.hottest;
      least_p = m.branches.least_p;
      greatest_p = m.branches.greatest_p;
      factor_some = m.factor_some;
      low = c.requires.curie_low;
      high = c.requires.curie_high;
    } in
    simp to_z-of_z (least_of_sums-room m.branches.t m.branches.p4 m.factor theta.result.low theta.result.high curie.low curie.high u c.least_u-u.ensures theta.ensures.low theta.ensures.high room)
