use Rattle.std.proofs.Common.{sym, ◌∙◌, rules}
use Rattle.cal_select.specs.Chosen.{is_selected}
use Rattle.cal_select.specs.Causes.{cause_if, is_too_wide}
use Rattle.cal_select.specs.declared.fault.SystemFault.TheVariants as faults
use Rattle.cal_select.proofs.Firsts.{told-found, kept-on, kept-off}
use Rattle.cal_select.proofs.phases.none_too_wide.Goals as goal
use Rattle.cal_select.proofs.phases.none_too_wide.Goals.{then-is_selected+in_ok-narrow, else-is_selected}

pub places-preserved : goal.places-preserved
places-preserved c = elim c.if-is_selected.branch [
  | then-is_selected+in_ok-narrow w ↦
      kept-on (λ e. cause_if (is_too_wide e.1.ratios) (faults.RatiosTooWide e.1.line)) (is_selected c.args.components.now c.args.listed.now) c.args.db.now.phases c.places.place (c.phase_at.result.0.now, c.phase_at.result.1.now)
      c.phase_at.ensures.entry c.places.invariant w.in_ok-narrow.ensures
  | else-is_selected w ↦
      kept-off (λ e. cause_if (is_too_wide e.1.ratios) (faults.RatiosTooWide e.1.line)) (is_selected c.args.components.now c.args.listed.now) c.args.db.now.phases c.places.place (c.phase_at.result.0.now, c.phase_at.result.1.now)
      c.phase_at.ensures.entry c.places.invariant (sym c.is_selected.ensures ∙ w.if-is_selected.false)
]

pub returns-in_err-narrow : goal.returns-in_err-narrow
returns-in_err-narrow c =
    let told = told-found (λ e. cause_if (is_too_wide e.1.ratios) (faults.RatiosTooWide e.1.line)) (is_selected c.args.components.now c.args.listed.now) c.args.db.now.phases c.places.place (c.phase_at.result.0.now, c.phase_at.result.1.now) c.in_err-narrow.field-0.0
    c.phase_at.ensures.entry (sym c.is_selected.ensures ∙ c.if-is_selected.true) c.places.invariant c.in_err-narrow.ensures in
    search rules
