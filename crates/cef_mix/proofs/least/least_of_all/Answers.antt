use Rattle.std.proofs.Common.{rules, ◌≡◌, ◌≤◌, ◌+◌, ◌*◌, ◌^◌, arith, refl, to_z, SFits, ℕ}
use Rattle.std.specs.Prelude.{pos, ◌≤ℤ◌}
use Rattle.std.specs.Int.{w128, w64}
use Rattle.std.proofs.lemmas.Int.{ints, to_z-of_z}
use Rattle.cef_mix.specs.Mixes.{height, IsLeastOn}
use Rattle.cef_mix.specs.Tables.{entry}
use Rattle.cef_mix.proofs.Heights.{IsLeastOn-one, IsLeastOn-keeps, IsLeastOn-takes}
use Rattle.cef_mix.proofs.least.least_of_all.Goals as goal
use Rattle.cef_mix.proofs.least.least_of_all.Goals.{then-here-least, else-here-least}

pub each-init : goal.each-init
each-init c =
    let fits_slope = c.ranges.slope in
    let fits_energy : SFits w64 (entry c.args.energies.now c.from-first.result) = search rules in
    let fits_least : SFits w128 c.height_of-least.result = search rules in
    let reached : c.height_of-least.result ≡ height (entry c.args.energies.now) c.args.slope c.from-first.result = simp to_z-of_z at c.height_of-least.ensures in
    simp to_z-of_z (c.args.low, omega arith, omega arith, rw (← c.from-first.ensures) (IsLeastOn-one (entry c.args.energies.now) c.args.slope c.from-first.result c.height_of-least.result reached))

pub each-preserved : goal.each-preserved
each-preserved c =
    let fits_slope = c.ranges.slope in
    let fits_energy : SFits w64 (entry c.args.energies.now c.each.k) = search rules in
    let fits_here : SFits w128 c.height_of-here.result = search rules in
    let reached : c.height_of-here.result ≡ height (entry c.args.energies.now) c.args.slope c.each.k = simp to_z-of_z at c.height_of-here.ensures in
    let before : IsLeastOn (entry c.args.energies.now) c.args.slope c.args.low c.each.invariant.0 c.each.place c.each.least = rw c.each.least-is at (simp to_z-of_z at c.each.invariant.3) in
    let next : c.each.k ≡ c.each.invariant.0 + 1 = omega (arith, c.each.invariant.1) in
    elim c.if-here-least.branch [
      | then-here-least w ↦
          let le : c.height_of-here.result ≤ℤ c.each.least = omega (arith, ints, w.if-here-least.true, c.each.least-is) in
          rw (w.least-is, w.place-is) (simp to_z-of_z (c.each.k, refl, omega (arith, c.each.invariant.2), IsLeastOn-takes _ _ _ _ _ _ _ _ next c.each.invariant.2 reached le before))
      | else-here-least w ↦
          let le : c.each.least ≤ℤ c.height_of-here.result = omega (arith, ints, w.if-here-least.false, c.each.least-is) in
          rw (w.least-is, w.place-is, c.each.least-is) (simp to_z-of_z (c.each.k, refl, omega (arith, c.each.invariant.2), IsLeastOn-keeps _ _ _ _ _ _ _ _ next reached le before))
    ]

pub returns : goal.returns
returns c =
    let fits_slope = c.ranges.slope in
    let top : c.each.invariant.0 ≡ c.args.high = omega (arith, c.each.invariant.1, c.each.auto.k-end, c.from-end.ensures, c.from-first.ensures) in
    rw top at (simp to_z-of_z at c.each.invariant.3)
