use Rattle.std.proofs.Common.{◌≤◌, ◌<◌, arith, length}
use Rattle.cef_phase.specs.declared.row.Row.{Row}
use Rattle.cef_phase.specs.Walks.{mixing_of, ranges_at, part_at, secant_of, all_secants, IsFirstOpen}
use Rattle.cef_phase.proofs.Secants.{secants_step, secants_end}
use Rattle.cef_phase.proofs.choose.choose_row.Goals as goal

pub each-preserved : goal.each-preserved
each-preserved c =
    let row : Row = c.args.row.now in
    let there : c.each.site < length (ranges_at row) = omega (arith, c.each-test.true, c.requires.row.each) in
    record {
      exact = secants_step (part_at row) (mixing_of row) row.slopes.now row.low.now row.high.now c.each.site c.each.best.multiplier c.best_with-best.result.multiplier _ c.each-test.true there c.best_with-best.ensures.exact c.each.invariant.exact;
      best = c.best_with-best.ensures.best;
    }

pub secant-requires-clause-site : goal.secant-requires-clause-site
secant-requires-clause-site c =
    let found : IsFirstOpen c.args.row.now c.in-Some.start = c.first_open.ensures.found c.in-Some.start c.in-Some.is in
    found.there

pub with_zero-requires-clause-chosen : goal.with_zero-requires-clause-chosen
with_zero-requires-clause-chosen c =
    let row : Row = c.args.row.now in
    let found : IsFirstOpen row c.in-Some.start = c.first_open.ensures.found c.in-Some.start c.in-Some.is in
    let all : length row.slopes.now ≤ c.each.site = omega (arith, c.each-test.false) in
    secants_end (part_at row) (mixing_of row) row.slopes.now (ranges_at row) c.each.site c.each.best.multiplier (secant_of row c.in-Some.start) _ (all_secants row) all found.first c.each.invariant.exact
