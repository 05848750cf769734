use Rattle.std.proofs.Common.{[]}
use Rattle.cal_base.specs.Outside.{Rose}
use Rattle.cal_select.proofs.Valuing.{ranged_functions}
use Rattle.path_run.specs.Workings.{HasOutcomes}
use Rattle.path_run.proofs.Printing.{stops_first}
use Rattle.path_run.proofs.Causes.{none_open}
use Rattle.path_run.proofs.Replying.{fault_printed, fault_partly, complete}
use Rattle.path_run.proofs.running.run_path.Goals as goal

pub run_over-requires-clause-outcomes : goal.run_over-requires-clause-outcomes
run_over-requires-clause-outcomes g c =
    record { law = c.some_outcome.ensures; functions = ranged_functions c.args.db.now.functions c.soundness.ensures.functions }

pub returns-in-Err-clause-replied : goal.returns-in-Err-clause-replied
returns-in-Err-clause-replied g c = λ fine.
    let known : HasOutcomes c.args.db.now =
    record { law = c.some_outcome.ensures; functions = ranged_functions c.args.db.now.functions c.soundness.ensures.functions } in
    let fault = c.in-Err.fault in
    fault_printed c.args.db.now c.args.job [] fault c.print_fault.result _ _ _ known (none_open c.args.db.now c.args.job fault c.in-Err.ensures.fits)
    (stops_first c.args.db.now c.args.job fault (g.K.Sink.written c.args.out.now) c.requires.job c.in-Err.ensures.fault)
    (c.print_fault.ensures.ok fine)

pub returns-in-Err-clause-partly : goal.returns-in-Err-clause-partly
returns-in-Err-clause-partly g c = λ is.
    let known : HasOutcomes c.args.db.now =
    record { law = c.some_outcome.ensures; functions = ranged_functions c.args.db.now.functions c.soundness.ensures.functions } in
    let fault = c.in-Err.fault in
    fault_partly c.args.db.now c.args.job [] fault _ _ _ known (none_open c.args.db.now c.args.job fault c.in-Err.ensures.fits)
    (stops_first c.args.db.now c.args.job fault (g.K.Sink.written c.args.out.now) c.requires.job c.in-Err.ensures.fault)
    (c.print_fault.ensures.partly is)

pub returns-in-Err-clause-complete : goal.returns-in-Err-clause-complete
returns-in-Err-clause-complete g c = λ never no_fault.
    complete c.args.db.now c.args.job c.print_fault.result (g.K.Sink.written c.args.out.now) (g.K.Sink.written c.print_fault.new.out)
    (Rose (g.K.Sink.faults c.args.out.now) (g.K.Sink.faults c.print_fault.new.out)) never no_fault
    c.print_fault.ensures.write (returns-in-Err-clause-replied g c)

pub returns-in-Ok-clause-complete : goal.returns-in-Ok-clause-complete
returns-in-Ok-clause-complete g c = λ never no_fault.
    complete c.args.db.now c.args.job c.run_over.result (g.K.Sink.written c.args.out.now) (g.K.Sink.written c.run_over.new.out)
    (Rose (g.K.Sink.faults c.args.out.now) (g.K.Sink.faults c.run_over.new.out)) never no_fault c.run_over.ensures.write c.run_over.ensures.replied
