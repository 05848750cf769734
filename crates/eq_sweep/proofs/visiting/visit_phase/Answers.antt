use Rattle.std.proofs.Common.{rules, ◌≡◌, ◌≤◌, ◌<◌, List, ℕ, subst, sym, ap, refl, ◌++◌, ◌∷◌, [], ◌∙◌, arith, length}
use Rattle.cef_core.specs.declared.phase.PhaseAt.{PhaseAt}
use Rattle.cef_core.specs.Shapes.{shape}
use Rattle.eq_sweep.specs.Findings.{IsReady, IsFinding, AreShaped, ArePushed}
use Rattle.eq_sweep.specs.Visits.{below, out, at_corner, at_budget, Stops}
use Rattle.eq_sweep.proofs.Stacks.{top_ready, goes_stops, goes_done, work_node, work_part, visiting_start, visiting_node, visiting_part, length_kept}
use Rattle.cef_box.specs.Tight.{full_box}
use Rattle.eq_sweep.proofs.visiting.visit_phase.Goals as goal

pub boxes-init : goal.boxes-init
boxes-init g c =
    let phase = g.P.PhaseModel.phase_of c.args.model.now in
    let ready : IsReady phase c.in_ok-start.start = subst (λ (p : PhaseAt). IsReady p c.in_ok-start.start) c.phase-phase.ensures (record { fits = c.in_ok-start.ensures.fits; has_site = c.in_ok-start.ensures.has_site; tight = c.in_ok-start.ensures.tight }) in
    let full : c.in_ok-start.start ≡ full_box phase = subst (λ (p : PhaseAt). c.in_ok-start.start ≡ full_box p) c.phase-phase.ensures c.in_ok-start.ensures.exact in
    let stack : c.push.new.self.items ≡ c.in_ok-start.start ∷ [] = search rules in
    let corner : shape c.in_ok-corner.corner ≡ shape phase.sites = subst (λ (p : PhaseAt). shape c.in_ok-corner.corner ≡ shape p.sites) c.phase-phase.ensures c.in_ok-corner.ensures in
    let each : length c.in_ok-multipliers.multipliers.items ≡ length phase.sites = search rules in
    visiting_start phase c.args.potentials.now c.args.budget c.args.used c.push.new.self.items c.new-nodes.result c.in_ok-spare.spare.items c.in_ok-corner.corner c.in_ok-multipliers.multipliers.items c.in_ok-start.start ready full stack c.new-nodes.ensures c.in_ok-spare.ensures corner each

pub examine-requires-clause-ready : goal.examine-requires-clause-ready
examine-requires-clause-ready g c =
    let phase = g.P.PhaseModel.phase_of c.args.model.now in
    top_ready phase c.args.potentials.now c.args.budget (full_box phase) c.args.used c.boxes.stack.items c.pop.new.self.items c.in-Some.range c.boxes.nodes c.boxes.splits c.in-Some.ensures.items c.boxes.invariant.goes

pub boxes-smaller-in-Continue-branch-9 : goal.boxes-smaller-in-Continue-branch-9
boxes-smaller-in-Continue-branch-9 g c =
    let phase = g.P.PhaseModel.phase_of c.args.model.now in
    work_node phase c.args.potentials.now c.args.budget (full_box phase) c.args.used c.boxes.stack.items c.pop.new.self.items c.in-Some.range c.boxes.nodes c.boxes.splits c.in-Some.ensures.items c.boxes.invariant.goes

pub boxes-preserved-in-Continue-branch-9 : goal.boxes-preserved-in-Continue-branch-9
boxes-preserved-in-Continue-branch-9 g c =
    let phase = g.P.PhaseModel.phase_of c.args.model.now in
    let node = subst (IsFinding phase c.args.potentials.now c.in-Some.range) c.in-Found.is c.in_ok-found.ensures.found in
    let written : length c.examine.new.multipliers ≡ length c.boxes.multipliers.items = c.examine.auto.multipliers ∙ ap length c.as_mut_slice.ensures.value in
    let whole : c.boxes.multipliers.len ≡ length c.boxes.multipliers.items = search rules in
    visiting_node phase c.args.potentials.now c.args.budget c.args.used c.boxes.stack.items c.pop.new.self.items c.in-Some.range c.boxes.nodes c.push-in-Found.new.self c.in-Found.node c.boxes.splits c.boxes.spare.items c.push-in-Found-2.new.self.items c.boxes.corner c.examine.new.corner c.boxes.multipliers.items _
    c.in-Some.ensures.items c.in_ok-push-in-Found.ensures.ok node c.in_ok-push-in-Found-2.ensures.items c.in_ok-found.ensures.shaped (length_kept c.boxes.multipliers.len c.examine.new.multipliers c.boxes.multipliers.items written whole) c.boxes.invariant

pub returns-in-Below : goal.returns-in-Below
returns-in-Below g c =
    let phase = g.P.PhaseModel.phase_of c.args.model.now in
    let at = subst (IsFinding phase c.args.potentials.now c.in-Some.range) c.in-Below.is c.in_ok-found.ensures.found in
    let stops : Stops phase c.args.potentials.now c.args.budget c.in-Some.range c.boxes.splits (below c.examine.new.corner) = rw c.in_ok-found.ensures.corner (at_corner c.in-Some.range c.boxes.splits at) in
    goes_stops phase c.args.potentials.now c.args.budget (full_box phase) c.args.used c.boxes.stack.items c.pop.new.self.items c.in-Some.range c.boxes.nodes c.boxes.splits (below c.examine.new.corner) c.in-Some.ensures.items stops c.boxes.invariant.goes

pub returns-then-is_spent : goal.returns-then-is_spent
returns-then-is_spent g c =
    let phase = g.P.PhaseModel.phase_of c.args.model.now in
    let opened = subst (IsFinding phase c.args.potentials.now c.in-Some.range) c.in-Open.is c.in_ok-found.ensures.found in
    goes_stops phase c.args.potentials.now c.args.budget (full_box phase) c.args.used c.boxes.stack.items c.pop.new.self.items c.in-Some.range c.boxes.nodes c.boxes.splits out c.in-Some.ensures.items (at_budget c.in-Some.range c.boxes.splits opened.0 c.if-is_spent.ensures.yes) c.boxes.invariant.goes

pub push_parts-requires-clause-ready : goal.push_parts-requires-clause-ready
push_parts-requires-clause-ready g c =
    let phase = g.P.PhaseModel.phase_of c.args.model.now in
    let ready : IsReady phase c.in-Some.range = top_ready phase c.args.potentials.now c.args.budget (full_box phase) c.args.used c.boxes.stack.items c.pop.new.self.items c.in-Some.range c.boxes.nodes c.boxes.splits c.in-Some.ensures.items c.boxes.invariant.goes in
    subst (λ (p : PhaseAt). IsReady p c.in-Some.range) (sym c.phase-phase.ensures) ready

pub push_parts-requires-clause-spare : goal.push_parts-requires-clause-spare
push_parts-requires-clause-spare g c =
    let phase = g.P.PhaseModel.phase_of c.args.model.now in
    let ready : IsReady phase c.in-Some.range = top_ready phase c.args.potentials.now c.args.budget (full_box phase) c.args.used c.boxes.stack.items c.pop.new.self.items c.in-Some.range c.boxes.nodes c.boxes.splits c.in-Some.ensures.items c.boxes.invariant.goes in
    subst (λ (widths : List ℕ). AreShaped widths c.boxes.spare.items) (sym ready.fits.widths) c.boxes.invariant.spares

pub boxes-smaller : goal.boxes-smaller
boxes-smaller g c =
    let phase = g.P.PhaseModel.phase_of c.args.model.now in
    let pushed : ArePushed phase.lattice c.in-Some.range c.in-Open.cut c.pop.new.self.items c.push_parts.new.stack.items = subst (λ (p : PhaseAt). ArePushed p.lattice c.in-Some.range c.in-Open.cut c.pop.new.self.items c.push_parts.new.stack.items) c.phase-phase.ensures c.in_ok-push_parts-in-Open.ensures.pushed in
    work_part phase c.args.potentials.now c.args.budget (full_box phase) c.args.used c.boxes.stack.items c.pop.new.self.items c.push_parts.new.stack.items c.in-Some.range c.in-Open.cut c.boxes.nodes c.boxes.splits c.in-Some.ensures.items pushed c.boxes.invariant.goes

pub boxes-preserved : goal.boxes-preserved
boxes-preserved g c =
    let phase = g.P.PhaseModel.phase_of c.args.model.now in
    let opened = subst (IsFinding phase c.args.potentials.now c.in-Some.range) c.in-Open.is c.in_ok-found.ensures.found in
    let pushed : ArePushed phase.lattice c.in-Some.range c.in-Open.cut c.pop.new.self.items c.push_parts.new.stack.items = subst (λ (p : PhaseAt). ArePushed p.lattice c.in-Some.range c.in-Open.cut c.pop.new.self.items c.push_parts.new.stack.items) c.phase-phase.ensures c.in_ok-push_parts-in-Open.ensures.pushed in
    let written : length c.examine.new.multipliers ≡ length c.boxes.multipliers.items = c.examine.auto.multipliers ∙ ap length c.as_mut_slice.ensures.value in
    let whole : c.boxes.multipliers.len ≡ length c.boxes.multipliers.items = search rules in
    visiting_part phase c.args.potentials.now c.args.budget c.args.used c.boxes.stack.items c.pop.new.self.items c.push_parts.new.stack.items c.in-Some.range c.in-Open.cut c.boxes.nodes c.push-in-Open.new.self c.boxes.splits _ c.boxes.spare.items c.push_parts.new.spare.items c.boxes.corner c.examine.new.corner c.boxes.multipliers.items _
    c.in-Some.ensures.items c.in_ok-push-in-Open.ensures.ok pushed refl (c.if-is_spent.ensures.no) opened.0 opened.1 c.in_ok-push_parts-in-Open.ensures.spare c.in_ok-found.ensures.shaped (length_kept c.boxes.multipliers.len c.examine.new.multipliers c.boxes.multipliers.items written whole) c.boxes.invariant

pub returns : goal.returns
returns g c =
    let phase = g.P.PhaseModel.phase_of c.args.model.now in
    let empty : c.boxes.stack.items ≡ [] = search rules in
    goes_done phase c.args.potentials.now c.args.budget (full_box phase) c.args.used c.boxes.stack.items c.boxes.nodes c.boxes.splits empty c.boxes.invariant.goes
