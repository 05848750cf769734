use Rattle.std.proofs.Common.{rules, ◌≡◌, refl, ap, ◌∙◌}
use Rattle.std.specs.Prelude.{Err}
use Rattle.eq_solve.specs.declared.fault.SolveFault.{SolveFault}
use Rattle.eq_solve.specs.declared.fault.SolveFault.TheVariants.{Infeasible, GapNotClosed}
use Rattle.cal_top.specs.Equilibria.{asked_of, phase_names, infeasible, left_open}
use Rattle.cal_top.proofs.Opened.{fault_is, phase_named, entries_named}
use Rattle.cal_top.proofs.equilibria.by_models.Goals as goal

pub returns-in-Err-Infeasible : goal.returns-in-Err-Infeasible
returns-in-Err-Infeasible g c =
    let whole : c.equilibrium-found.result ≡ Err (Infeasible c.in-Err-Infeasible.numbers) = c.in-Err-Infeasible.is ∙ ap (λ (f : SolveFault). Err f) c.in-Err-Infeasible.field-0-is in
    let fault = fault_is c.args.system.now _ _ _ _ _ whole c.equilibrium-found.ensures.fault in
    let asked : c.as_slice-2.result.now ≡ asked_of c.args.request.now c.args.system.now = search rules in
    let at_asked = rw asked at fault in
    infeasible c.in-Err-Infeasible.numbers.items (record { shown = at_asked.0; infeasible = at_asked.1 }) refl (search rules)

pub open_text-requires-clause-phase : goal.open_text-requires-clause-phase
open_text-requires-clause-phase g c =
    let whole : c.equilibrium-found.result ≡ Err (GapNotClosed c.in-Err-GapNotClosed.left) = c.in-Err-GapNotClosed.is ∙ ap (λ (f : SolveFault). Err f) c.in-Err-GapNotClosed.field-0-is in
    let fault = fault_is c.args.system.now _ _ _ _ _ whole c.equilibrium-found.ensures.fault in
    let names : c.as_slice-in-Err-GapNotClosed-2.result.now ≡ phase_names c.args.system.now = search rules in
    phase_named c.args.system.now _ _ _ c.in-Err-GapNotClosed.left _ names fault

pub open_text-requires-clause-entries : goal.open_text-requires-clause-entries
open_text-requires-clause-entries g c =
    let whole : c.equilibrium-found.result ≡ Err (GapNotClosed c.in-Err-GapNotClosed.left) = c.in-Err-GapNotClosed.is ∙ ap (λ (f : SolveFault). Err f) c.in-Err-GapNotClosed.field-0-is in
    let fault = fault_is c.args.system.now _ _ _ _ _ whole c.equilibrium-found.ensures.fault in
    let names : c.as_slice-in-Err-GapNotClosed-2.result.now ≡ phase_names c.args.system.now = search rules in
    entries_named c.args.system.now _ _ _ c.in-Err-GapNotClosed.left _ names fault

pub returns-in-Err-GapNotClosed : goal.returns-in-Err-GapNotClosed
returns-in-Err-GapNotClosed g c =
    let whole : c.equilibrium-found.result ≡ Err (GapNotClosed c.in-Err-GapNotClosed.left) = c.in-Err-GapNotClosed.is ∙ ap (λ (f : SolveFault). Err f) c.in-Err-GapNotClosed.field-0-is in
    let fault = fault_is c.args.system.now _ _ _ _ _ whole c.equilibrium-found.ensures.fault in
    let asked : c.as_slice-2.result.now ≡ asked_of c.args.request.now c.args.system.now = search rules in
    let at_asked = rw asked at fault in
    left_open (record { left = c.in-Err-GapNotClosed.left; open_is = at_asked.0; feasible = at_asked.1; printed_is = search rules }) refl
