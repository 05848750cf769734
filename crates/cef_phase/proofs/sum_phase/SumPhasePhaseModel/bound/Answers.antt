use Rattle.std.proofs.Common.{rules, ◌≡◌, ◌∙◌, refl, length, take, SFits}
use Rattle.std.specs.Prelude.{pos, ◌+ℤ◌, ◌*ℤ◌, replicate}
use Rattle.std.specs.Int.{w128}
use Rattle.std.proofs.lemmas.Int.{to_z-of_z}
use Rattle.cal_math.specs.Vectors.{at}
use Rattle.cef_phase.specs.Bounds.{lows_over}
use Rattle.cef_phase.proofs.Totals.{zero_rises, zero_at, plain_exact}
use Rattle.cef_phase.proofs.sum_phase.SumPhasePhaseModel.bound.Goals as goal

pub all_parts-parts-requires-clause-room : goal.all_parts-parts-requires-clause-room
all_parts-parts-requires-clause-room c = zero_rises c.places.result 90

pub returns : goal.returns
returns c =
    let fits_lows : SFits w128 c.sum_of_lows-lows.result = search rules in
    let fits_times : SFits w128 c.times.result = search rules in
    let fits_parts : SFits w128 c.all_parts-parts.result = search rules in
    let fits : SFits w128 c.plus.result = search rules in
    let scaled : c.times.result ≡ pos 65536 *ℤ c.sum_of_lows-lows.result = simp to_z-of_z at c.times.ensures in
    let sum : c.plus.result ≡ c.times.result +ℤ c.all_parts-parts.result = simp to_z-of_z at c.plus.ensures in
    let lows : c.sum_of_lows-lows.result ≡ lows_over c.args.self.now.phase.now c.args.range.now = rw c.as_slice.ensures.value at c.sum_of_lows-lows.ensures.exact ∙ c.args.self.now.valid.lows_are c.args.range.now in
    simp to_z-of_z (plain_exact (at (take c.places.result (replicate 90 (pos 0)))) c.args.self.now.phase.now c.args.potentials.now c.args.range.now c.args.multipliers.now (length c.args.self.now.phase.now.sites) c.sum_of_lows-lows.result c.times.result c.all_parts-parts.result c.plus.result (zero_at c.places.result 90) lows scaled refl c.all_parts-parts.ensures.exact sum)
