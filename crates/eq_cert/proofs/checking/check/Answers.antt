use Rattle.std.proofs.Common.{rules, arith, ◌<◌, length}
use Rattle.eq_cert.specs.Rules.{MeetsRules, node_line}
use Rattle.eq_cert.proofs.Certified.{lawful_from}
use Rattle.eq_cert.proofs.Judging.{holds_from_kept, lines_few, line_few}
use Rattle.eq_cert.proofs.checking.check.Goals as goal

pub returns-in-Ok-None-clause-holds : goal.returns-in-Ok-None-clause-holds
returns-in-Ok-None-clause-holds g c =
    let meets : MeetsRules c.args.system.now c.args.report.now = search rules in
    holds_from_kept c.args.system.now (lawful_from g.P.PhaseModel.phase_of c.args.models.now c.args.system.now c.requires.models g.met.P.PhaseModel.below g.met.P.PhaseModel.affine_below) c.args.report.now c.requires.spelled c.requires.system meets

pub first_broken-found-requires-clause-lines : goal.first_broken-found-requires-clause-lines
first_broken-found-requires-clause-lines g c = lines_few c.args.report.now c.args.first_line c.requires.spelled c.requires.lines

pub overflow_cast-result : goal.overflow_cast-result
overflow_cast-result g c =
    let within : c.in-Ok-Some.broken.line < node_line c.args.report.now (length c.args.report.now.trees) = search rules in
    omega (arith, line_few c.args.report.now c.args.first_line c.in-Ok-Some.broken.line c.requires.spelled c.requires.lines within)

pub overflow_add-result : goal.overflow_add-result
overflow_add-result g c =
    let within : c.in-Ok-Some.broken.line < node_line c.args.report.now (length c.args.report.now.trees) = search rules in
    omega (arith, line_few c.args.report.now c.args.first_line c.in-Ok-Some.broken.line c.requires.spelled c.requires.lines within)
