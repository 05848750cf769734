use Rattle.std.proofs.Common.{rules, ◌≡◌, ◌≤◌, Some, arith, SFits}
use Rattle.std.specs.Prelude.{unsigned_abs}
use Rattle.std.proofs.lemmas.Bool.{OnTrue_from, leb-true}
use Rattle.std.proofs.lemmas.Int.{to_z-of_z}
use Rattle.cef_mix.specs.Tables.{IsNarrow}
use Rattle.cef_mix.proofs.Rises.{narrow_below}
use Rattle.cef_mix.proofs.table.Table.is_narrow.Goals as goal

pub returns-in-Some : goal.returns-in-Some
returns-in-Some c =
    let fits = c.ranges.slope in
    let most : IsNarrow c.self.inside.t c.self.inside.lattice c.self.inside.ratio c.in-Some.steepest = c.self.invariant.narrow c.in-Some.steepest c.in-Some.is in
    let value : c.unsigned_abs.result ≡ unsigned_abs c.args.slope = simp to_z-of_z at c.unsigned_abs.ensures.value in
    rw (← c.self.view_is) (OnTrue_from _ _ (λ e.
    let le : c.unsigned_abs.result ≤ c.from.result = leb-true c.unsigned_abs.result c.from.result e in
    narrow_below c.self.inside.t c.self.inside.lattice c.self.inside.ratio c.in-Some.steepest (unsigned_abs c.args.slope) most (omega (arith, le, value, c.from.ensures))))
