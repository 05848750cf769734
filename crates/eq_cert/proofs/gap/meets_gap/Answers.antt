use Rattle.std.proofs.Common.{◌≡◌, false, SFits, arith, to_z, of_z}
use Rattle.std.specs.Prelude.{pos, ◌-ℤ◌, ◌*ℤ◌, ◌<ℤ◌}
use Rattle.std.specs.Int.{w128}
use Rattle.std.proofs.lemmas.Bool.{OnFalse_at, OnFalse_from}
use Rattle.std.proofs.lemmas.Int.{ints, to_z-of_z}
use Rattle.cal_math.specs.Vectors.{at}
use Rattle.cef_core.specs.Worth.{worth}
use Rattle.cef_report.specs.Certificates.{MeetsGap}
use Rattle.eq_cert.proofs.Halves.{no_gap_from_height}
use Rattle.eq_cert.proofs.gap.meets_gap.Goals as goal

pub returns-clause-no : goal.returns-clause-no
returns-clause-no c =
    let fits_energy = c.ranges.energy in
    let fits_gap = c.ranges.gap in
    let fits : SFits w128 (c.args.energy -ℤ c.args.gap) = omega (arith, ints) in
    OnFalse_from c.reaches.result (MeetsGap c.args.potentials.now c.args.totals.now c.args.energy c.args.gap → ⊥) (λ (e : c.reaches.result ≡ false).
    let less : worth c.args.potentials.now (at c.args.totals.now) <ℤ (pos 65536 *ℤ to_z w128 (of_z w128 (to_z w128 (of_z w128 c.args.energy) -ℤ to_z w128 (of_z w128 c.args.gap)))) = OnFalse_at e c.reaches.ensures.no in
    no_gap_from_height c.args.energy c.args.gap (worth c.args.potentials.now (at c.args.totals.now)) (simp to_z-of_z at less))
