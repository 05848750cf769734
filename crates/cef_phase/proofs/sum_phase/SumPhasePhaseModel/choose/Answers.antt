use Rattle.std.proofs.Common.{rules, ◌≡◌, ◌∙◌, length, take, SFits}
use Rattle.std.specs.Prelude.{pos, ◌+ℤ◌, ◌*ℤ◌, replicate}
use Rattle.std.specs.Int.{w128}
use Rattle.std.proofs.lemmas.Int.{to_z-of_z}
use Rattle.cal_math.specs.Vectors.{at}
use Rattle.cef_phase.specs.Bounds.{lows_over}
use Rattle.cef_phase.proofs.Totals.{zero_rises, zero_at, plain_exact, plain_chosen}
use Rattle.cef_phase.proofs.sum_phase.SumPhasePhaseModel.choose.Goals as goal

pub choose_all-parts-requires-clause-room : goal.choose_all-parts-requires-clause-room
choose_all-parts-requires-clause-room c = zero_rises c.places.result 90

pub returns-clause-chosen : goal.returns-clause-chosen
returns-clause-chosen c =
    plain_chosen (at (take c.places.result (replicate 90 (pos 0)))) c.args.self.now.phase.now c.args.potentials.now c.args.range.now c.choose_all-parts.new.out (zero_at c.places.result 90) (c.choose_all-parts.ensures.each ∙ c.requires.places) c.choose_all-parts.ensures.chosen

pub returns-clause-bound : goal.returns-clause-bound
returns-clause-bound c =
    let fits_lows : SFits w128 c.sum_of_lows-lows.result = search rules in
    let fits_times : SFits w128 c.times.result = search rules in
    let fits_parts : SFits w128 c.choose_all-parts.result = search rules in
    let fits : SFits w128 c.plus.result = search rules in
    let scaled : c.times.result ≡ pos 65536 *ℤ c.sum_of_lows-lows.result = simp to_z-of_z at c.times.ensures in
    let sum : c.plus.result ≡ c.times.result +ℤ c.choose_all-parts.result = simp to_z-of_z at c.plus.ensures in
    let lows : c.sum_of_lows-lows.result ≡ lows_over c.args.self.now.phase.now c.args.range.now = rw c.as_slice.ensures.value at c.sum_of_lows-lows.ensures.exact ∙ c.args.self.now.valid.lows_are c.args.range.now in
    let each : length c.choose_all-parts.new.out ≡ length c.args.self.now.phase.now.sites = c.choose_all-parts.ensures.each ∙ c.requires.places in
    simp to_z-of_z (plain_exact (at (take c.places.result (replicate 90 (pos 0)))) c.args.self.now.phase.now c.args.potentials.now c.args.range.now c.choose_all-parts.new.out (length c.choose_all-parts.new.out) c.sum_of_lows-lows.result c.times.result c.choose_all-parts.result c.plus.result (zero_at c.places.result 90) lows scaled each c.choose_all-parts.ensures.parts sum)
