use Rattle.std.proofs.Common.{◌≡◌, ◌≤◌, ◌-◌, None}
use Rattle.path_run.specs.Outputs.{head_of}
use Rattle.path_run.specs.Workings.{PrintedSteps}
use Rattle.path_run.proofs.stepping.print_steps.Given as goal

abbrev pub invariant-steps : goal.invariant-steps
invariant-steps g l = record {
  unfinished : l.walk.finish ≡ None;
  printed : PrintedSteps l.fn.db l.fn.walk.job l.walk (g.K.Sink.written l.fn.out) (g.K.Sink.written l.out);
  later : g.K.Sink.faults l.fn.out ≤ g.K.Sink.faults l.out;
}

abbrev pub decreases-steps : goal.decreases-steps
decreases-steps g l = 10000 - l.walk.steps
