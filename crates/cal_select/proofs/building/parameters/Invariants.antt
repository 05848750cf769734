use Rattle.std.proofs.Common.{take}
use Rattle.std.specs.Prelude.{filter}
use Rattle.temp_fun.specs.Keeping.{IsKept}
use Rattle.cal_select.specs.Valuations.{Valuation, AreOutcomes}
use Rattle.cal_select.specs.Parameters.{counts, parameters_of, parameter_at}
use Rattle.cal_select.specs.Causes.{parameter_causes}
use Rattle.cal_select.proofs.Made.{IsMade}
use Rattle.cal_select.proofs.building.parameters.Given as goal

abbrev pub invariant-numbers : goal.invariant-numbers
invariant-numbers l = record {
  known : IsKept l.source.db.now.functions l.source.job.now.t l.known;
  made : (outcome : Valuation) → AreOutcomes l.source.db.now.functions l.source.job.now.t outcome →
      IsMade (parameter_causes outcome l.needs.kept.now) (parameter_at outcome l.source.db.now l.needs.scale l.needs.kept.now)
      (filter (counts l.needs.magnetic l.needs.kept.now) (take l.number (parameters_of l.source.db.now l.needs.group.phase.now))) l.all;
}
