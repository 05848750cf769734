use Rattle.std.proofs.Common.{take}
use Rattle.std.specs.Prelude.{filter}
use Rattle.std.specs.List.{AllByRecursion}
use Rattle.temp_fun.specs.Keeping.{IsKept}
use Rattle.cal_select.specs.Valuations.{Valuation, AreOutcomes}
use Rattle.cal_select.specs.Chosen.{is_selected}
use Rattle.cal_select.specs.Selection.{phase_at}
use Rattle.cal_select.specs.Causes.{phase_causes}
use Rattle.cal_select.specs.Measures.{IsMeasured}
use Rattle.cal_select.proofs.Made.{IsMade}
use Rattle.cal_select.proofs.building.phases.Given as goal

abbrev pub invariant-places : goal.invariant-places
invariant-places l = record {
  known : IsKept l.source.db.now.functions l.source.job.now.t l.known;
  measured : AllByRecursion IsMeasured l.all;
  made : (outcome : Valuation) → AreOutcomes l.source.db.now.functions l.source.job.now.t outcome →
      IsMade (phase_causes outcome l.source.db.now l.source.components.now) (phase_at outcome l.source.db.now l.source.job.now l.source.components.now)
      (filter (is_selected l.source.components.now l.source.job.now.phases) (take l.place l.source.db.now.phases)) l.all;
}
