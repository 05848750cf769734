use Rattle.std.proofs.Common.{◌≡◌, ◌^◌, refl}
use Rattle.cef_phase.specs.Walks.{slopes_among}
use Rattle.cef_phase.proofs.Walking.{IsRowAt, row_can, among_small, length-among, row_part_is, row_candidates_are}
use Rattle.cef_phase.proofs.walk.row_of.Goals as goal

pub returns : goal.returns
returns c =
    let same : c.slopes_from.result.now ≡ slopes_among c.args.phase.now c.args.slopes.now c.args.place = rw (c.sites_in.ensures, c.requires.from) at c.slopes_from.ensures in
    let is : IsRowAt c.args.phase.now c.args.mix.now c.args.range.now c.args.slopes.now c.args.place _ = record { mix_is = refl; place_is = refl; slopes_is = same; ranges_is = c.sublattice-ranges.ensures } in
    record {
      row = row_can (2 ^ 118) c.args.phase.now c.args.mix.now c.args.range.now c.args.slopes.now c.args.place _ c.requires.walk c.requires.place is;
      slopes = λ limit small. rw (same, c.requires.walk.mixed.lattice) (among_small limit c.args.phase.now c.args.slopes.now c.args.place small);
      lattice = c.requires.walk.mixed.lattice;
      sites = rw same (length-among (2 ^ 118) c.args.phase.now c.args.mix.now c.args.range.now c.args.slopes.now c.args.place c.requires.walk c.requires.place);
      part = row_part_is (2 ^ 118) c.args.phase.now c.args.mix.now c.args.range.now c.args.slopes.now c.args.place _ c.requires.walk is;
      candidates = row_candidates_are (2 ^ 118) c.args.phase.now c.args.mix.now c.args.range.now c.args.slopes.now c.args.place _ c.requires.walk is;
    }
