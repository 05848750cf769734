use Rattle.std.proofs.Common.{◌≤◌, ◌∙◌, refl, sym, subst, arith, length, List}
use Rattle.std.specs.List.{AllByRecursion}
use Rattle.cef_core.specs.declared.phase.PhaseAt.{PhaseAt}
use Rattle.temp_fun.specs.Functions.{Functions}
use Rattle.temp_fun.specs.Keeping.{IsKept}
use Rattle.cal_select.specs.declared.fault.SystemFault.TheVariants as faults
use Rattle.cal_select.specs.Chosen.{is_selected}
use Rattle.cal_select.specs.Selection.{phase_at}
use Rattle.cal_select.specs.Causes.{phase_causes, cause_if, is_too_wide}
use Rattle.cal_select.specs.Measures.{IsMeasured}
use Rattle.cal_select.proofs.Firsts.{told-found, none-found, no_cause}
use Rattle.cal_select.proofs.Taken.{AllByRecursion-append}
use Rattle.cal_select.proofs.Made.{made-on, made-off, made-all}
use Rattle.cal_select.proofs.building.phases.Goals as goal
use Rattle.cal_select.proofs.building.phases.Goals.{then-is_selected+in-Ok+in_ok-push-in-Ok, else-is_selected}

pub phase-requires-clause-narrow : goal.phase-requires-clause-narrow
phase-requires-clause-narrow c =
    let source = c.args.source.now in
    let text = c.phase_at.result.1.now in
    no_cause (is_too_wide text.ratios) (faults.RatiosTooWide text.line)
    (none-found (λ e. cause_if (is_too_wide e.1.ratios) (faults.RatiosTooWide e.1.line)) (is_selected source.components.now source.job.now.phases) source.db.now.phases c.places.place (c.phase_at.result.0.now, text)
    c.phase_at.ensures.entry (sym c.is_selected.ensures ∙ c.if-is_selected.true) c.requires.narrow)

pub places-init : goal.places-init
places-init c = record {
  known = subst (λ (f : Functions). IsKept f c.args.source.now.job.now.t c.in_ok-known.known) c.functions.ensures.entries (c.in_ok-known.ensures c.args.source.now.job.now.t);
  measured = subst (λ (all : List PhaseAt). AllByRecursion IsMeasured all) (sym c.new-all.ensures) tt;
  made = λ outcome are. record { none = refl; made = c.new-all.ensures };
}

pub places-preserved : goal.places-preserved
places-preserved c =
    let source = c.args.source.now in
    elim c.if-is_selected.branch [
      | then-is_selected+in-Ok+in_ok-push-in-Ok w ↦ rw (w.all-is, w.known-is) (record {
        known = w.in-Ok.ensures.known;
        measured = rw w.in_ok-push-in-Ok.ensures.ok (AllByRecursion-append IsMeasured c.places.all w.in-Ok.field-0.value c.places.invariant.measured w.in-Ok.ensures.measured);
        made = λ outcome are.
            let gives = w.in-Ok.ensures.gives outcome are in
            made-on (phase_causes outcome source.db.now source.components.now) (phase_at outcome source.db.now source.job.now source.components.now) (is_selected source.components.now source.job.now.phases)
            source.db.now.phases c.places.place (c.phase_at.result.0.now, c.phase_at.result.1.now) c.places.all _ w.in-Ok.field-0.value
            c.phase_at.ensures.entry (sym c.is_selected.ensures ∙ w.if-is_selected.true) (c.places.invariant.made outcome are) gives.0 gives.1 w.in_ok-push-in-Ok.ensures.ok;
      })
      | else-is_selected w ↦ rw (w.all-is, w.known-is) (record {
        known = c.places.invariant.known;
        measured = c.places.invariant.measured;
        made = λ outcome are.
            made-off (phase_causes outcome source.db.now source.components.now) (phase_at outcome source.db.now source.job.now source.components.now) (is_selected source.components.now source.job.now.phases)
            source.db.now.phases c.places.place (c.phase_at.result.0.now, c.phase_at.result.1.now) c.places.all
            c.phase_at.ensures.entry (sym c.is_selected.ensures ∙ w.if-is_selected.false) (c.places.invariant.made outcome are);
      })
    ]

pub returns-clause-gives : goal.returns-clause-gives
returns-clause-gives c = λ outcome are.
    let source = c.args.source.now in
    let passed : length source.db.now.phases ≤ c.places.place = omega (arith, c.places-test.false, c.phase_count-place-end.ensures.count) in
    let made = made-all (phase_causes outcome source.db.now source.components.now) (phase_at outcome source.db.now source.job.now source.components.now) (is_selected source.components.now source.job.now.phases)
    source.db.now.phases c.places.place c.places.all passed (c.places.invariant.made outcome are) in
    (made.none, made.made)

pub returns-in-Err : goal.returns-in-Err
returns-in-Err c =
    let source = c.args.source.now in
    record {
      measured = tt;
      gives = λ outcome are apart.
          told-found (phase_causes outcome source.db.now source.components.now) (is_selected source.components.now source.job.now.phases) source.db.now.phases c.places.place (c.phase_at.result.0.now, c.phase_at.result.1.now) c.in-Err.fault
          c.phase_at.ensures.entry (sym c.is_selected.ensures ∙ c.if-is_selected.true) (c.places.invariant.made outcome are).none (c.in-Err.ensures.gives outcome are) apart;
    }
