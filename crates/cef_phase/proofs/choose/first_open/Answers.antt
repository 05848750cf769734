use Rattle.std.proofs.Common.{◌≡◌, ◌≤◌, ◌<◌, arith, length, subst}
use Rattle.cef_phase.specs.declared.row.Row.{Row}
use Rattle.cef_phase.specs.Walks.{mixing_of, ranges_at, all_secants, IsFirstOpen}
use Rattle.cef_phase.proofs.Secants.{secants_closed, secants_open, secants_none}
use Rattle.cef_phase.proofs.choose.first_open.Goals as goal

pub each-preserved : goal.each-preserved
each-preserved c =
    let row : Row = c.args.row.now in
    let there : c.each.site < length (ranges_at row) = omega (arith, c.each-test.true, c.requires.row.each) in
    secants_closed (mixing_of row) row.slopes.now row.low.now row.high.now c.each.site (all_secants row) c.each-test.true there c.if-row-site.false c.each.invariant

pub returns-then-row-site-clause-found : goal.returns-then-row-site-clause-found
returns-then-row-site-clause-found c = λ site e.
    let row : Row = c.args.row.now in
    let same : c.each.site ≡ site = cc in
    let there : c.each.site < length (ranges_at row) = omega (arith, c.each-test.true, c.requires.row.each) in
    let first = secants_open (mixing_of row) row.slopes.now row.low.now row.high.now c.each.site (all_secants row) c.each-test.true there c.if-row-site.true c.each.invariant in
    subst (IsFirstOpen row) same (record { there = c.each-test.true; wide = c.if-row-site.true; first = first })

pub returns-clause-none : goal.returns-clause-none
returns-clause-none c = λ e.
    let row : Row = c.args.row.now in
    let all : length row.slopes.now ≤ c.each.site = omega (arith, c.each-test.false) in
    secants_none (mixing_of row) row.slopes.now (ranges_at row) c.each.site (all_secants row) all c.each.invariant
