use Rattle.std.proofs.Common.{take, All}
use Rattle.cal_limits.specs.declared.TheConstants.{MOST_NANOMOLES}
use Rattle.cal_job.specs.Requests.{IsBetween}
use Rattle.cal_job.proofs.Items.{AreSaid}
use Rattle.cal_job.proofs.composition.items.Given as goal

abbrev pub invariant-words : goal.invariant-words
invariant-words l = record {
  said : AreSaid (λ w. w.now) (take l.i l.words) l.all;
  each : All (λ item. IsBetween 1 MOST_NANOMOLES item.1) l.all;
}
