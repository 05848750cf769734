use Rattle.std.proofs.Common.{◌+◌, map, arith, subst}
use Rattle.eq_cert.specs.Judging.{AreJudgedTrees}
use Rattle.eq_cert.proofs.Judging.{models_each, node_within, node_broken, planes, potentials_each, trees_kept}
use Rattle.eq_cert.proofs.Sized.{all_fine}
use Rattle.eq_cert.proofs.checking.first_broken.Goals as goal

pub overflow_add-result-in-Some-found : goal.overflow_add-result-in-Some-found
overflow_add-result-in-Some-found g c =
    let wrong = subst (AreJudgedTrees (map g.P.PhaseModel.phase_of c.args.models.now) c.as_slice.result.now c.as_slice-in-None.result.now) c.in-Some-found.is c.in_ok-found-in-None.ensures in
    let within = rw c.as_slice-in-None.ensures at (node_within _ _ c.as_slice-in-None.result.now c.in-Some-found.line wrong) in
    omega (arith, within)

pub returns-in-None-found-clause-exact : goal.returns-in-None-found-clause-exact
returns-in-None-found-clause-exact g c =
    let right = subst (AreJudgedTrees (map g.P.PhaseModel.phase_of c.args.models.now) c.as_slice.result.now c.as_slice-in-None.result.now) c.in-None-found.is c.in_ok-found-in-None.ensures in
    trees_kept c.args.system.now c.args.report.now (map g.P.PhaseModel.phase_of c.args.models.now) c.as_slice.result.now c.as_slice-in-None.result.now c.requires.models c.as_slice.ensures c.as_slice-in-None.ensures c.in-None.ensures.none right

pub returns-in-Some-found-clause-within : goal.returns-in-Some-found-clause-within
returns-in-Some-found-clause-within g c =
    let wrong = subst (AreJudgedTrees (map g.P.PhaseModel.phase_of c.args.models.now) c.as_slice.result.now c.as_slice-in-None.result.now) c.in-Some-found.is c.in_ok-found-in-None.ensures in
    let within = rw c.as_slice-in-None.ensures at (node_within _ _ c.as_slice-in-None.result.now c.in-Some-found.line wrong) in
    omega (arith, within, c.len.ensures)

pub returns-in-Some-found-clause-exact : goal.returns-in-Some-found-clause-exact
returns-in-Some-found-clause-exact g c =
    let wrong = subst (AreJudgedTrees (map g.P.PhaseModel.phase_of c.args.models.now) c.as_slice.result.now c.as_slice-in-None.result.now) c.in-Some-found.is c.in_ok-found-in-None.ensures in
    node_broken c.args.system.now c.args.report.now (map g.P.PhaseModel.phase_of c.args.models.now) c.as_slice.result.now c.as_slice-in-None.result.now c.in-Some-found.line (13 + c.len.result + c.in-Some-found.line) c.requires.models c.as_slice.ensures c.as_slice-in-None.ensures (omega (arith, c.len.ensures)) c.in-None.ensures.none wrong

pub broken_tree-requires-clause-one_each : goal.broken_tree-requires-clause-one_each
broken_tree-requires-clause-one_each g c = rw c.as_slice-in-None.ensures (models_each g.P.PhaseModel.phase_of c.args.models.now c.args.system.now c.args.report.now c.requires.models c.requires.spelled c.in-None.ensures.none.phases)

pub broken_tree-requires-clause-fine : goal.broken_tree-requires-clause-fine
broken_tree-requires-clause-fine g c = rw c.requires.models (all_fine c.args.system.now c.args.system.now.phases c.requires.system.phases)

pub broken_tree-requires-clause-planes : goal.broken_tree-requires-clause-planes
broken_tree-requires-clause-planes g c =
    rw (c.requires.models, c.as_slice.ensures) (planes c.args.system.now c.args.report.now.potentials c.requires.system (potentials_each c.args.system.now c.args.report.now c.requires.spelled c.in-None.ensures.none.elements) c.in-None.ensures.none.potentials)
