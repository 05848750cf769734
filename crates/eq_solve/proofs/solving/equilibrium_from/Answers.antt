use Rattle.std.proofs.Common.{◌≡◌, refl, ◌∙◌, subst}
use Rattle.eq_sweep.specs.declared.swept.Swept.TheVariants.{Closed}
use Rattle.eq_sweep.specs.Sweeps.{IsSweep}
use Rattle.eq_solve.specs.Modelled.{IsReady}
use Rattle.eq_solve.proofs.Asking.{can_solve}
use Rattle.eq_solve.proofs.Reported.{holds_from, certified_from, near_from, spelled_from}
use Rattle.eq_solve.proofs.Sizing.{sized}
use Rattle.eq_solve.proofs.Swept.{trees_each, trees_spelled, trees_reported}
use Rattle.eq_solve.proofs.solving.equilibrium_from.Goals as goal

pub equilibrium_by_rounds-requires-clause-ready : goal.equilibrium_by_rounds-requires-clause-ready
equilibrium_by_rounds-requires-clause-ready g c = record { system_is = c.requires.system; models = c.requires.models }

pub equilibrium_by_rounds-requires-clause-can : goal.equilibrium_by_rounds-requires-clause-can
equilibrium_by_rounds-requires-clause-can g c =
    can_solve c.args.system.now c.args.asked.now c.args.gap (sized c.args.system.now c.requires.system) c.requires.asked c.requires.gap_low c.requires.gap_high

pub returns-clause-holds : goal.returns-clause-holds
returns-clause-holds g c =
    holds_from c.args.system.now (IsSweep c.args.system.now.phases) c.args.asked.now c.args.gap c.args.budget c.in_ok-reached.reached.found c.in_ok-report.report c.in_ok-reached.ensures.found c.in_ok-report.ensures

pub returns-clause-certified : goal.returns-clause-certified
returns-clause-certified g c =
    certified_from c.args.system.now (IsSweep c.args.system.now.phases) c.args.asked.now c.args.gap c.args.budget c.in_ok-reached.reached.found c.in_ok-report.report c.in_ok-reached.ensures.found c.in_ok-report.ensures

pub returns-clause-near : goal.returns-clause-near
returns-clause-near g c =
    near_from c.args.system.now (IsSweep c.args.system.now.phases) c.args.asked.now c.args.gap c.args.budget c.in_ok-reached.reached.found c.in_ok-report.report c.in_ok-reached.ensures.found c.in_ok-report.ensures

pub returns-clause-spelled : goal.returns-clause-spelled
returns-clause-spelled g c =
    let found = c.in_ok-reached.ensures.found in
    spelled_from c.args.system.now (IsSweep c.args.system.now.phases) c.args.asked.now c.args.gap c.args.budget c.in_ok-reached.reached.found c.in_ok-report.report c.requires.system (sized c.args.system.now c.requires.system) c.requires.asked c.requires.gap_high
    found (trees_each c.args.system.now _ _ _ found.closes) (trees_spelled c.args.system.now _ _ _ c.requires.system found.can_sweep found.closes) c.in_ok-report.ensures

pub returns-clause-trees : goal.returns-clause-trees
returns-clause-trees g c =
    trees_reported c.args.system.now c.args.asked.now c.args.budget c.in_ok-reached.reached.found c.in_ok-report.report c.in_ok-report.ensures c.in_ok-reached.ensures.found.closes

pub returns-clause-feasible : goal.returns-clause-feasible
returns-clause-feasible g c = c.in_ok-reached.ensures.feasible
