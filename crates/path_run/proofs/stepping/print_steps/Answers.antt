use Rattle.std.proofs.Common.{◌≡◌, ap, sym, ◌∙◌, arith}
use Rattle.cal_scheil.specs.declared.job.PathJob.{PathJob}
use Rattle.path_run.proofs.Printing.{print_on, print_on_partly, stops, same_fault, rose_later}
use Rattle.path_run.proofs.stepping.print_steps.Goals as goal

pub returns-in-Err-clause-stopped : goal.returns-in-Err-clause-stopped
returns-in-Err-clause-stopped g c = λ fault is.
    let e = c.in-Err.ensures.stopped fault (same_fault _ _ is) in
    let i = c.steps.invariant in
    stops _ _ fault _ _ _ _ _ i.printed i.unfinished e.0 e.1 e.2

pub returns-in-Err-clause-write : goal.returns-in-Err-clause-write
returns-in-Err-clause-write g c = λ is.
    let e = c.in-Err.ensures.write (same_fault _ _ is) in
    let i = c.steps.invariant in
    (rose_later _ _ _ i.later e.0, print_on_partly _ _ _ _ _ _ _ _ c.requires.outcomes c.requires.head i.printed i.unfinished e.1)

pub returns-in-Some-clause-ok : goal.returns-in-Some-clause-ok
returns-in-Some-clause-ok g c =
    let e = c.in-Ok.ensures.ok in
    let i = c.steps.invariant in
    (sym e.0 ∙ c.in-Some.is, print_on _ _ _ _ _ _ _ _ c.requires.outcomes c.requires.head i.printed i.unfinished e.1)

pub steps-preserved : goal.steps-preserved
steps-preserved g c =
    let e = c.in-Ok.ensures.ok in
    let i = c.steps.invariant in
    record {
      unfinished = sym e.0 ∙ c.in-None.is;
      printed = print_on _ _ _ _ _ _ _ _ c.requires.outcomes c.requires.head i.printed i.unfinished e.1;
      later = omega (arith, i.later, c.in-Ok.ensures.later);
    }
