use Rattle.std.proofs.Common.{◌≡◌, ap, ◌∙◌}
use Rattle.std.specs.Prelude.{Err}
use Rattle.path_run.specs.declared.path_fault.PathFault.{PathFault}
use Rattle.path_run.proofs.Printing.{rose_later}
use Rattle.path_run.proofs.Causes.{fits}
use Rattle.path_run.proofs.Replying.{fault_printed, fault_partly}
use Rattle.path_run.proofs.running.run_over.Goals as goal

pub print_fault-requires : goal.print_fault-requires
print_fault-requires g c =
    let fault = c.in-Err-Stopped.fault in
    let stopped = c.print_path-printed.ensures.stopped fault (c.in-Err-Stopped.is ∙ ap Err c.in-Err-Stopped.field-0-is) in
    fits _ _ stopped.printed.steps stopped.walk _ fault c.requires.outcomes stopped.printed.made c.requires.names stopped.fault_is

pub returns-in-Err-Stopped-clause-replied : goal.returns-in-Err-Stopped-clause-replied
returns-in-Err-Stopped-clause-replied g c = λ fine.
    let fault = c.in-Err-Stopped.fault in
    let stopped = c.print_path-printed.ensures.stopped fault (c.in-Err-Stopped.is ∙ ap Err c.in-Err-Stopped.field-0-is) in
    fault_printed _ _ _ fault _ _ _ _ c.requires.outcomes (λ left is. c.requires.names) stopped (c.print_fault.ensures.ok fine)

pub returns-in-Err-Stopped-clause-write : goal.returns-in-Err-Stopped-clause-write
returns-in-Err-Stopped-clause-write g c = λ is. rose_later _ _ _ c.print_path-printed.ensures.later (c.print_fault.ensures.write is)

pub returns-in-Err-Stopped-clause-partly : goal.returns-in-Err-Stopped-clause-partly
returns-in-Err-Stopped-clause-partly g c = λ is.
    let fault = c.in-Err-Stopped.fault in
    let stopped = c.print_path-printed.ensures.stopped fault (c.in-Err-Stopped.is ∙ ap Err c.in-Err-Stopped.field-0-is) in
    fault_partly _ _ _ fault _ _ _ c.requires.outcomes (λ left is. c.requires.names) stopped (c.print_fault.ensures.partly is)
