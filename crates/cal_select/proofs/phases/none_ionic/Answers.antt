use Rattle.std.proofs.Common.{refl, sym, ◌∙◌}
use Rattle.cal_select.specs.Chosen.{is_selected}
use Rattle.cal_select.specs.Causes.{cause_if, is_ionic}
use Rattle.cal_select.specs.declared.fault.SystemFault.TheVariants as faults
use Rattle.cal_select.proofs.Firsts.{kept-found, kept-on, kept-off}
use Rattle.cal_select.proofs.phases.none_ionic.Goals as goal
use Rattle.cal_select.proofs.phases.none_ionic.Goals.{else-is_selected-via-then-is_selected+else-is_ionic, else-is_selected-via-else-is_selected}

pub returns-then-is_ionic : goal.returns-then-is_ionic
returns-then-is_ionic c = λ apart.
    kept-found (λ e. cause_if (is_ionic e.1) (faults.Ionic e.1.line)) (is_selected c.args.components.now c.args.listed.now) c.args.db.now.phases c.places.place (c.phase_at.result.0.now, c.phase_at.result.1.now) _
    c.phase_at.ensures.entry (sym c.is_selected.ensures ∙ c.if-is_selected.true) c.places.invariant (rw (sym c.is_ionic.ensures, c.if-is_ionic.true) refl)

pub places-preserved : goal.places-preserved
places-preserved c = elim c.else-is_selected.branch [
  | else-is_selected-via-then-is_selected+else-is_ionic w ↦
      kept-on (λ e. cause_if (is_ionic e.1) (faults.Ionic e.1.line)) (is_selected c.args.components.now c.args.listed.now) c.args.db.now.phases c.places.place (c.phase_at.result.0.now, c.phase_at.result.1.now)
      c.phase_at.ensures.entry c.places.invariant (rw (sym w.is_ionic.ensures, w.if-is_ionic.false) refl)
  | else-is_selected-via-else-is_selected w ↦
      kept-off (λ e. cause_if (is_ionic e.1) (faults.Ionic e.1.line)) (is_selected c.args.components.now c.args.listed.now) c.args.db.now.phases c.places.place (c.phase_at.result.0.now, c.phase_at.result.1.now)
      c.phase_at.ensures.entry c.places.invariant (sym c.is_selected.ensures ∙ w.if-is_selected.false)
]
