use Rattle.std.proofs.Common.{rules, ◌≡◌, ◌≤◌, ◌*◌, ◌^◌, arith, SFits, ℕ}
use Rattle.std.specs.Prelude.{ℤ, pos, ◌-ℤ◌, ◌*ℤ◌, ◌≤ℤ◌, ◌<ℤ◌}
use Rattle.std.specs.Int.{w128}
use Rattle.std.proofs.lemmas.Int.{ints, to_z-of_z}
use Rattle.cef_phase.specs.declared.row.Row.{Row}
use Rattle.cef_phase.specs.Walks.{part_at}
use Rattle.cef_phase.proofs.Betters.{Line, IsNarrowed, past_low, past_high, taken_best, kept_best}
use Rattle.cef_phase.proofs.choose.better.Goals as goal

pub returns-then-best-part-clause-best : goal.returns-then-best-part-clause-best
returns-then-best-part-clause-best c =
    let row : Row = c.args.row.now in
    let n : ℕ = row.mix.now.lattice in
    let f : ℤ → ℤ = part_at row in
    let fits_other = c.ranges.other in
    let fits_part : SFits w128 c.row_part-part.result.height = search rules in
    let fits_best : SFits w128 c.args.best.part = search rules in
    let fits_low : SFits w128 c.args.best.between.low = search rules in
    let fits_high : SFits w128 c.args.best.between.high = search rules in
    let exact : c.row_part-part.result.height ≡ f c.args.other = simp to_z-of_z at c.row_part-part.ensures.exact in
    let line : Line f n c.row_part-part.result.counts c.args.other c.row_part-part.result.height = simp to_z-of_z at c.row_part-part.ensures.line in
    let inside = rw c.parts.ensures at (simp to_z-of_z at c.narrowed-between.ensures.inside) in
    let left = rw c.parts.ensures at (simp to_z-of_z at c.narrowed-between.ensures.left) in
    let right = rw c.parts.ensures at (simp to_z-of_z at c.narrowed-between.ensures.right) in
    let narrow : IsNarrowed n c.row_part-part.result.counts c.args.other c.args.best.between.low c.args.best.between.high c.narrowed-between.result.low c.narrowed-between.result.high = record { inside = inside; left = left; right = right } in
    let past_low = simp to_z-of_z at c.if-other-best.false in
    let past_high = simp to_z-of_z at c.if-best-other.false in
    let low : c.args.best.between.low <ℤ c.args.other = omega (arith, ints, past_low) in
    let high : c.args.other <ℤ c.args.best.between.high = omega (arith, ints, past_high) in
    let better = simp to_z-of_z at c.if-best-part.true in
    let more : c.args.best.part <ℤ c.row_part-part.result.height = omega (arith, ints, better) in
    simp to_z-of_z (taken_best n c.row_part-part.result.counts f _ _ _ _ c.args.other _ _ _ c.requires.best c.requires.other low high exact line narrow more)

pub returns-else-best-part-clause-best : goal.returns-else-best-part-clause-best
returns-else-best-part-clause-best c =
    let row : Row = c.args.row.now in
    let n : ℕ = row.mix.now.lattice in
    let f : ℤ → ℤ = part_at row in
    let fits_other = c.ranges.other in
    let fits_part : SFits w128 c.row_part-part.result.height = search rules in
    let fits_best : SFits w128 c.args.best.part = search rules in
    let fits_low : SFits w128 c.args.best.between.low = search rules in
    let fits_high : SFits w128 c.args.best.between.high = search rules in
    let exact : c.row_part-part.result.height ≡ f c.args.other = simp to_z-of_z at c.row_part-part.ensures.exact in
    let line : Line f n c.row_part-part.result.counts c.args.other c.row_part-part.result.height = simp to_z-of_z at c.row_part-part.ensures.line in
    let inside = rw c.parts.ensures at (simp to_z-of_z at c.narrowed-between.ensures.inside) in
    let left = rw c.parts.ensures at (simp to_z-of_z at c.narrowed-between.ensures.left) in
    let right = rw c.parts.ensures at (simp to_z-of_z at c.narrowed-between.ensures.right) in
    let narrow : IsNarrowed n c.row_part-part.result.counts c.args.other c.args.best.between.low c.args.best.between.high c.narrowed-between.result.low c.narrowed-between.result.high = record { inside = inside; left = left; right = right } in
    let past_low = simp to_z-of_z at c.if-other-best.false in
    let past_high = simp to_z-of_z at c.if-best-other.false in
    let low : c.args.best.between.low <ℤ c.args.other = omega (arith, ints, past_low) in
    let high : c.args.other <ℤ c.args.best.between.high = omega (arith, ints, past_high) in
    let fits_multiplier : SFits w128 c.args.best.multiplier = search rules in
    let worse = simp to_z-of_z at c.if-best-part.false in
    let less : c.row_part-part.result.height ≤ℤ c.args.best.part = omega (arith, ints, worse) in
    simp to_z-of_z (kept_best n c.row_part-part.result.counts f _ _ _ _ c.args.other _ _ _ c.requires.best low high exact line narrow less)

pub returns-then-other-best-clause-exact : goal.returns-then-other-best-clause-exact
returns-then-other-best-clause-exact c =
    let row : Row = c.args.row.now in
    let fits_other = c.ranges.other in
    let fits_low : SFits w128 c.args.best.between.low = search rules in
    let past = simp to_z-of_z at c.if-other-best.true in
    let le : c.args.other ≤ℤ c.args.best.between.low = omega (arith, ints, past) in
    past_low row.mix.now.lattice (part_at row) _ _ _ _ c.args.other c.requires.best c.requires.other le

pub returns-then-best-other-clause-exact : goal.returns-then-best-other-clause-exact
returns-then-best-other-clause-exact c =
    let row : Row = c.args.row.now in
    let fits_other = c.ranges.other in
    let fits_high : SFits w128 c.args.best.between.high = search rules in
    let past = simp to_z-of_z at c.if-best-other.true in
    let le : c.args.best.between.high ≤ℤ c.args.other = omega (arith, ints, past) in
    past_high row.mix.now.lattice (part_at row) _ _ _ _ c.args.other c.requires.best c.requires.other le
