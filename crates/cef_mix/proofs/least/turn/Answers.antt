use Rattle.std.proofs.Common.{rules, ◌≡◌, ◌≤◌, ◌+◌, ◌-◌, ◌/◌, arith, SFits, ℕ}
use Rattle.std.specs.Prelude.{◌≤ℤ◌, ◌<ℤ◌}
use Rattle.std.specs.Int.{w64}
use Rattle.std.proofs.lemmas.Int.{ints, to_z-of_z}
use Rattle.cef_mix.specs.Tables.{entry}
use Rattle.cef_mix.proofs.Halves.{IsHalving, IsHalving-left, IsHalving-right}
use Rattle.cef_mix.proofs.least.turn.Goals as goal
use Rattle.cef_mix.proofs.least.turn.Goals.{then-rises-first, else-rises-first}

pub halves-preserved : goal.halves-preserved
halves-preserved c =
    let fits = c.ranges.most in
    let half : ℕ = c.halves.left - c.halves.left / 2 in
    let middle : ℕ = c.halves.first + half - 1 in
    let has : IsHalving c.args.rises.now c.args.most c.args.low c.args.high c.halves.first (c.halves.first + c.halves.left) = simp to_z-of_z at c.halves.invariant in
    let fits_rise : SFits w64 (entry c.args.rises.now middle) = search rules in
    elim c.if-rises-first.branch [
      | then-rises-first w ↦
          let le : entry c.args.rises.now middle ≤ℤ c.args.most = omega (arith, ints, w.if-rises-first.true) in
          simp to_z-of_z (IsHalving-right _ _ _ _ _ _ middle c.if-rises-first.first (c.if-rises-first.first + (c.halves.left - half)) c.requires.ordered c.requires.within has (omega (arith, w.first-is)) (omega arith) (omega arith) (omega (arith, w.first-is)) le)
      | else-rises-first w ↦
          let lt : c.args.most <ℤ entry c.args.rises.now middle = omega (arith, ints, w.if-rises-first.false) in
          simp to_z-of_z (IsHalving-left _ _ _ _ _ _ middle c.if-rises-first.first (c.if-rises-first.first + (c.halves.left - half)) c.requires.ordered c.requires.within has w.first-is (omega (arith, w.first-is)) (omega (arith, w.first-is)) (omega (arith, w.first-is)) (omega arith) lt)
    ]
