use Rattle.std.proofs.Common.{rules, ◌≡◌, SFits}
use Rattle.std.specs.Int.{w128}
use Rattle.std.proofs.lemmas.Int.{to_z-of_z}
use Rattle.cal_math.specs.Vectors.{at}
use Rattle.cef_phase.specs.declared.row.Row.{Row}
use Rattle.cef_phase.specs.Choosing.{secant}
use Rattle.cef_phase.specs.Walks.{mixing_of, part_at}
use Rattle.cef_phase.proofs.Parts.{range_at}
use Rattle.cef_phase.proofs.Secants.{with_secant}
use Rattle.cef_phase.proofs.choose.best_with.Goals as goal

pub returns-then-row-site-clause-exact : goal.returns-then-row-site-clause-exact
returns-then-row-site-clause-exact c =
    let row : Row = c.args.row.now in
    let fits : SFits w128 c.secant.result = search rules in
    let other : c.secant.result ≡ secant (mixing_of row) (at row.slopes.now c.args.site) (range_at row.low.now row.high.now c.args.site) = c.secant.ensures.exact in
    with_secant (part_at row) (mixing_of row) (at row.slopes.now c.args.site) (range_at row.low.now row.high.now c.args.site) c.args.best.multiplier c.better.result.multiplier c.secant.result c.if-row-site.true other (simp to_z-of_z at c.better.ensures.exact)
