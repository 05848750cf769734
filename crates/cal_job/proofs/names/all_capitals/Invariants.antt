use Rattle.std.proofs.Common.{◌≡◌, take, map}
use Rattle.cal_job.specs.Forms.{upper}
use Rattle.cal_job.proofs.names.all_capitals.Given as goal

abbrev pub invariant-texts : goal.invariant-texts
invariant-texts l = l.all ≡ map (λ w. upper w.now) (take l.text-index l.words)
