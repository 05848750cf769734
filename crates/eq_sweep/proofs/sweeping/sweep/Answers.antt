use Rattle.std.proofs.Common.{◌≡◌, ◌^◌, map, subst, arith}
use Rattle.std.proofs.lemmas.List.{length-map}
use Rattle.cef_core.specs.Phases.{IsFine}
use Rattle.cef_phase.specs.Bounds.{IsPlane}
use Rattle.eq_sweep.specs.declared.visiting.Visit.{Visit}
use Rattle.eq_sweep.specs.declared.swept.Swept.TheVariants.{Closed, Below, Out}
use Rattle.eq_sweep.specs.Findings.{IsVisit}
use Rattle.eq_sweep.specs.Sweeps.{IsSweep}
use Rattle.eq_sweep.specs.Visits.{below, out}
use Rattle.eq_sweep.proofs.Phases.{all_at, all_sound, model_at, comes_on, comes_stops, comes_done, sweep_tells}
use Rattle.eq_sweep.proofs.sweeping.sweep.Goals as goal

pub visit_phase-requires-clause-fine : goal.visit_phase-requires-clause-fine
visit_phase-requires-clause-fine g c = all_at g.P.PhaseModel.phase_of IsFine c.args.phases.now c.phases.place c.index-phases-place.result c.phases-test.true c.index-phases-place.is c.requires.fine

pub visit_phase-requires-clause-plane : goal.visit_phase-requires-clause-plane
visit_phase-requires-clause-plane g c = all_at g.P.PhaseModel.phase_of (λ p. IsPlane (2 ^ 116) p c.args.potentials.now) c.args.phases.now c.phases.place c.index-phases-place.result c.phases-test.true c.index-phases-place.is c.requires.planes

pub returns-in-Below-clause-exact : goal.returns-in-Below-clause-exact
returns-in-Below-clause-exact g c =
    let phase = g.P.PhaseModel.phase_of c.index-phases-place.result in
    let visit = subst (IsVisit phase c.args.potentials.now c.args.budget c.phases.splits) c.in-Below.is c.in_ok-found.ensures in
    comes_stops c.args.potentials.now c.args.budget (map g.P.PhaseModel.phase_of c.args.phases.now) c.phases.place c.phases.trees c.phases.splits phase (below c.in-Below.site) (model_at g.P.PhaseModel.phase_of c.args.phases.now c.phases.place c.index-phases-place.result c.phases-test.true c.index-phases-place.is) visit c.phases.invariant

pub returns-in-Below-clause-below : goal.returns-in-Below-clause-below
returns-in-Below-clause-below g c =
    let phase = g.P.PhaseModel.phase_of c.index-phases-place.result in
    let phases = map g.P.PhaseModel.phase_of c.args.phases.now in
    let visit = subst (IsVisit phase c.args.potentials.now c.args.budget c.phases.splits) c.in-Below.is c.in_ok-found.ensures in
    let exact : IsSweep phases c.args.potentials.now c.args.budget (Below c.phases.place c.in-Below.site) = comes_stops c.args.potentials.now c.args.budget phases c.phases.place c.phases.trees c.phases.splits phase (below c.in-Below.site) (model_at g.P.PhaseModel.phase_of c.args.phases.now c.phases.place c.index-phases-place.result c.phases-test.true c.index-phases-place.is) visit c.phases.invariant in
    let sound = all_sound g.P.PhaseModel.phase_of c.args.potentials.now (λ m. record { below = g.met.P.PhaseModel.below m c.args.potentials.now; exactly = g.met.P.PhaseModel.exactly m c.args.potentials.now; affine_below = g.met.P.PhaseModel.affine_below m c.args.potentials.now }) c.args.phases.now c.requires.fine c.requires.planes in
    (sweep_tells phases c.args.potentials.now c.args.budget (Below c.phases.place c.in-Below.site) sound exact).below

pub returns-in-Out-clause-exact : goal.returns-in-Out-clause-exact
returns-in-Out-clause-exact g c =
    let phase = g.P.PhaseModel.phase_of c.index-phases-place.result in
    let visit = subst (IsVisit phase c.args.potentials.now c.args.budget c.phases.splits) c.in-Out.is c.in_ok-found.ensures in
    comes_stops c.args.potentials.now c.args.budget (map g.P.PhaseModel.phase_of c.args.phases.now) c.phases.place c.phases.trees c.phases.splits phase out (model_at g.P.PhaseModel.phase_of c.args.phases.now c.phases.place c.index-phases-place.result c.phases-test.true c.index-phases-place.is) visit c.phases.invariant

pub returns-in-Out-clause-out : goal.returns-in-Out-clause-out
returns-in-Out-clause-out g c =
    let phase = g.P.PhaseModel.phase_of c.index-phases-place.result in
    let phases = map g.P.PhaseModel.phase_of c.args.phases.now in
    let visit = subst (IsVisit phase c.args.potentials.now c.args.budget c.phases.splits) c.in-Out.is c.in_ok-found.ensures in
    let exact : IsSweep phases c.args.potentials.now c.args.budget (Out c.phases.place) = comes_stops c.args.potentials.now c.args.budget phases c.phases.place c.phases.trees c.phases.splits phase out (model_at g.P.PhaseModel.phase_of c.args.phases.now c.phases.place c.index-phases-place.result c.phases-test.true c.index-phases-place.is) visit c.phases.invariant in
    let sound = all_sound g.P.PhaseModel.phase_of c.args.potentials.now (λ m. record { below = g.met.P.PhaseModel.below m c.args.potentials.now; exactly = g.met.P.PhaseModel.exactly m c.args.potentials.now; affine_below = g.met.P.PhaseModel.affine_below m c.args.potentials.now }) c.args.phases.now c.requires.fine c.requires.planes in
    (sweep_tells phases c.args.potentials.now c.args.budget (Out c.phases.place) sound exact).out

pub phases-preserved : goal.phases-preserved
phases-preserved g c =
    let phase = g.P.PhaseModel.phase_of c.index-phases-place.result in
    let visit = subst (IsVisit phase c.args.potentials.now c.args.budget c.phases.splits) c.in-Closed.is c.in_ok-found.ensures in
    comes_on c.args.potentials.now c.args.budget (map g.P.PhaseModel.phase_of c.args.phases.now) c.phases.place c.phases.trees c.push.new.self c.phases.splits c.in-Closed.after phase c.in-Closed.tree (model_at g.P.PhaseModel.phase_of c.args.phases.now c.phases.place c.index-phases-place.result c.phases-test.true c.index-phases-place.is) c.in_ok-push-in-Closed.ensures.ok visit c.phases.invariant

pub returns-clause-exact : goal.returns-clause-exact
returns-clause-exact g c =
    comes_done c.args.potentials.now c.args.budget (map g.P.PhaseModel.phase_of c.args.phases.now) c.phases.place c.phases.trees c.phases.splits (omega (arith, c.phases-test.false, length-map c.args.phases.now g.P.PhaseModel.phase_of)) c.phases.invariant

pub returns-clause-covered : goal.returns-clause-covered
returns-clause-covered g c =
    let phases = map g.P.PhaseModel.phase_of c.args.phases.now in
    let exact : IsSweep phases c.args.potentials.now c.args.budget (Closed c.phases.trees) = comes_done c.args.potentials.now c.args.budget phases c.phases.place c.phases.trees c.phases.splits (omega (arith, c.phases-test.false, length-map c.args.phases.now g.P.PhaseModel.phase_of)) c.phases.invariant in
    let sound = all_sound g.P.PhaseModel.phase_of c.args.potentials.now (λ m. record { below = g.met.P.PhaseModel.below m c.args.potentials.now; exactly = g.met.P.PhaseModel.exactly m c.args.potentials.now; affine_below = g.met.P.PhaseModel.affine_below m c.args.potentials.now }) c.args.phases.now c.requires.fine c.requires.planes in
    (sweep_tells phases c.args.potentials.now c.args.budget (Closed c.phases.trees) sound exact).covered

pub returns-clause-above : goal.returns-clause-above
returns-clause-above g c =
    let phases = map g.P.PhaseModel.phase_of c.args.phases.now in
    let exact : IsSweep phases c.args.potentials.now c.args.budget (Closed c.phases.trees) = comes_done c.args.potentials.now c.args.budget phases c.phases.place c.phases.trees c.phases.splits (omega (arith, c.phases-test.false, length-map c.args.phases.now g.P.PhaseModel.phase_of)) c.phases.invariant in
    let sound = all_sound g.P.PhaseModel.phase_of c.args.potentials.now (λ m. record { below = g.met.P.PhaseModel.below m c.args.potentials.now; exactly = g.met.P.PhaseModel.exactly m c.args.potentials.now; affine_below = g.met.P.PhaseModel.affine_below m c.args.potentials.now }) c.args.phases.now c.requires.fine c.requires.planes in
    (sweep_tells phases c.args.potentials.now c.args.budget (Closed c.phases.trees) sound exact).above
