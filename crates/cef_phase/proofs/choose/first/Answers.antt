use Rattle.std.proofs.Common.{rules, ◌≡◌, ◌≤◌, ◌^◌, arith, SFits, ℕ}
use Rattle.std.specs.Prelude.{ℤ, pos, negsuc, ◌-ℤ◌, ◌<ℤ◌, unsigned_abs}
use Rattle.std.specs.Int.{w128}
use Rattle.std.proofs.lemmas.Int.{ints, to_z-of_z}
use Rattle.cef_phase.specs.declared.row.Row.{Row}
use Rattle.cef_phase.specs.Walks.{part_at}
use Rattle.cef_phase.proofs.Betters.{Line, IsNarrowed, first_best}
use Rattle.cef_phase.proofs.choose.first.Goals as goal

pub returns-clause-best : goal.returns-clause-best
returns-clause-best c =
    let row : Row = c.args.row.now in
    let n : ℕ = row.mix.now.lattice in
    let f : ℤ → ℤ = part_at row in
    let far : ℤ = pos (2 ^ 118) in
    let fits_multiplier = c.ranges.multiplier in
    let fits_part : SFits w128 c.row_part-part.result.height = search rules in
    let exact : c.row_part-part.result.height ≡ f c.args.multiplier = simp to_z-of_z at c.row_part-part.ensures.exact in
    let line : Line f n c.row_part-part.result.counts c.args.multiplier c.row_part-part.result.height = simp to_z-of_z at c.row_part-part.ensures.line in
    let inside = rw c.parts.ensures at (simp to_z-of_z at c.narrowed.ensures.inside) in
    let left = rw c.parts.ensures at (simp to_z-of_z at c.narrowed.ensures.left) in
    let right = rw c.parts.ensures at (simp to_z-of_z at c.narrowed.ensures.right) in
    let narrow : IsNarrowed n c.row_part-part.result.counts c.args.multiplier (pos 0 -ℤ far) far c.narrowed.result.low c.narrowed.result.high = record { inside = inside; left = left; right = right } in
    simp to_z-of_z (first_best n c.row_part-part.result.counts f c.args.multiplier c.row_part-part.result.height (pos 0 -ℤ far) far _ _ c.requires.row.mixable.some c.requires.multiplier exact line (λ o s. (omega (arith, ints, s), omega (arith, ints, s))) narrow)
