use Rattle.std.proofs.Common.{rules, ◌≡◌, ◌≤◌, ◌*◌, ◌^◌, arith, SFits}
use Rattle.std.specs.Prelude.{unsigned_abs}
use Rattle.std.specs.Int.{w64}
use Rattle.std.proofs.lemmas.Int.{ints, to_z-of_z}
use Rattle.cef_mix.proofs.Halves.{least_of_mixing}
use Rattle.cef_mix.proofs.table.Table.least_on.Goals as goal

pub overflow_cast-slope : goal.overflow_cast-slope
overflow_cast-slope c =
    let fits = c.ranges.slope in
    let room = simp to_z-of_z at c.if-is_narrow.ensures in
    let alone : unsigned_abs c.args.slope ≤ 2 ^ 61 = room.alone in
    simp to_z-of_z (omega (arith, ints, alone))

pub returns-then-is_narrow : goal.returns-then-is_narrow
returns-then-is_narrow c =
    let fits = c.ranges.slope in
    let room = simp to_z-of_z at c.if-is_narrow.ensures in
    let alone : unsigned_abs c.args.slope ≤ 2 ^ 61 = room.alone in
    let narrow : SFits w64 c.args.slope = omega (arith, ints, alone) in
    let least = rw c.as_slice-energies.ensures.value at (simp to_z-of_z at c.least_narrow.ensures) in
    let within : c.args.high ≤ c.self.inside.lattice = rw (← c.self.view_is) at c.requires.within in
    rw (← c.self.view_is) (least_of_mixing c.self.inside.t c.self.inside.lattice c.self.inside.ratio _ c.args.slope c.args.low c.args.high _ _ c.self.invariant.energies within least)
