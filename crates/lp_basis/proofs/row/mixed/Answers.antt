use Rattle.std.proofs.Common.{rules, ◌≡◌, pos, slice_index_or, SFits, ◌*ℤ◌, ◌-ℤ◌}
use Rattle.std.specs.Int.{w128}
use Rattle.std.proofs.lemmas.Int.{to_z-of_z}
use Rattle.cal_math.specs.Vectors.{at}
use Rattle.lp_basis.proofs.Lists.{mixed_fits, each_pushed}
use Rattle.lp_basis.proofs.row.mixed.Goals as goal

pub times-first-requires : goal.times-first-requires
times-first-requires c =
    let fits_p = c.ranges.p in
    let fits_row : SFits w128 (slice_index_or c.args.row.now c.mix.i (pos 0)) = search rules in
    simp to_z-of_z ((mixed_fits _ _ c.args.p c.args.row.now c.args.q c.args.other.now c.mix.i c.requires.fits.2).0)

pub times-second-requires : goal.times-second-requires
times-second-requires c =
    let fits_q = c.ranges.q in
    let fits_other : SFits w128 (slice_index_or c.args.other.now c.mix.i (pos 0)) = search rules in
    simp to_z-of_z ((mixed_fits _ _ c.args.p c.args.row.now c.args.q c.args.other.now c.mix.i c.requires.fits.2).1)

pub minus-number-requires : goal.minus-number-requires
minus-number-requires c =
    let fits_p = c.ranges.p in
    let fits_q = c.ranges.q in
    let fits_row : SFits w128 (slice_index_or c.args.row.now c.mix.i (pos 0)) = search rules in
    let fits_other : SFits w128 (slice_index_or c.args.other.now c.mix.i (pos 0)) = search rules in
    let room = mixed_fits _ _ c.args.p c.args.row.now c.args.q c.args.other.now c.mix.i c.requires.fits.2 in
    let room_first : SFits w128 (c.args.p *ℤ slice_index_or c.args.row.now c.mix.i (pos 0)) = room.0 in
    let room_second : SFits w128 (c.args.q *ℤ slice_index_or c.args.other.now c.mix.i (pos 0)) = room.1 in
    let fits_first : SFits w128 c.times-first.result = search rules in
    let fits_second : SFits w128 c.times-second.result = search rules in
    let first = simp to_z-of_z at c.times-first.ensures in
    let second = simp to_z-of_z at c.times-second.ensures in
    simp (to_z-of_z, first, second) room.2

pub mix-preserved : goal.mix-preserved
mix-preserved c =
    let fits_p = c.ranges.p in
    let fits_q = c.ranges.q in
    let fits_row : SFits w128 (slice_index_or c.args.row.now c.mix.i (pos 0)) = search rules in
    let fits_other : SFits w128 (slice_index_or c.args.other.now c.mix.i (pos 0)) = search rules in
    let room = mixed_fits _ _ c.args.p c.args.row.now c.args.q c.args.other.now c.mix.i c.requires.fits.2 in
    let room_first : SFits w128 (c.args.p *ℤ slice_index_or c.args.row.now c.mix.i (pos 0)) = room.0 in
    let room_second : SFits w128 (c.args.q *ℤ slice_index_or c.args.other.now c.mix.i (pos 0)) = room.1 in
    let fits_first : SFits w128 c.times-first.result = search rules in
    let fits_second : SFits w128 c.times-second.result = search rules in
    let first = simp to_z-of_z at c.times-first.ensures in
    let second = simp to_z-of_z at c.times-second.ensures in
    let room_number : SFits w128 (c.args.p *ℤ slice_index_or c.args.row.now c.mix.i (pos 0) -ℤ c.args.q *ℤ slice_index_or c.args.other.now c.mix.i (pos 0)) = room.2 in
    let fits : SFits w128 c.minus-number.result = search rules in
    let is = simp (to_z-of_z, first, second) at c.minus-number.ensures in
    let items = simp to_z-of_z at c.in_ok-push.ensures.items in
    record {
      sized = search rules;
      exact = simp to_z-of_z (each_pushed (λ b v. v ≡ c.args.p *ℤ at c.args.row.now b -ℤ c.args.q *ℤ at c.args.other.now b) c.mix.numbers.items c.push.new.self.items c.minus-number.result c.mix.i c.mix.invariant.sized items
          (simp to_z-of_z at c.mix.invariant.exact) is);
    }
