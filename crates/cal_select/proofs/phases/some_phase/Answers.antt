use Rattle.std.proofs.Common.{sym, ◌∙◌}
use Rattle.cal_select.specs.Chosen.{is_selected}
use Rattle.cal_select.proofs.Kept_lists.{none-kept-on}
use Rattle.cal_select.proofs.phases.some_phase.Goals as goal

pub places-preserved : goal.places-preserved
places-preserved c =
    none-kept-on (is_selected c.args.components.now c.args.listed.now) c.args.db.now.phases c.places.place (c.phase_at.result.0.now, c.phase_at.result.1.now)
    c.phase_at.ensures.entry c.places.invariant (sym c.is_selected.ensures ∙ c.if-is_selected.false)
