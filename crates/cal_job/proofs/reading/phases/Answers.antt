use Rattle.cal_job.proofs.Listing.{some_listed}
use Rattle.cal_job.proofs.reading.phases.Goals as goal

pub returns-in_ok-names-in-Some-clause-range : goal.returns-in_ok-names-in-Some-clause-range
returns-in_ok-names-in-Some-clause-range c =
    (rw c.in_ok-names-in-Some.ensures.value (some_listed c.as_bytes.result.now), c.in_ok-names-in-Some.ensures.names)
