use Rattle.std.proofs.Common.{◌≡◌, ℕ, List, Option, sym, subst, arith}
use Rattle.cal_base.specs.declared.status.Status.TheVariants.{Memory}
use Rattle.path_run.specs.Outputs.{PathPrinted}
use Rattle.path_run.proofs.Printing.{on_ok, same_fault, rose_later}
use Rattle.path_run.proofs.Replying.{steps_printed, steps_partly, finish_printed, finish_partly}
use Rattle.path_run.proofs.running.print_walk.Goals as goal

pub returns-in-Err-clause-stopped : goal.returns-in-Err-clause-stopped
returns-in-Err-clause-stopped g c = λ fault is. c.in-Err.ensures.stopped fault (same_fault _ _ is)

pub returns-in-Err-clause-write : goal.returns-in-Err-clause-write
returns-in-Err-clause-write g c = λ is. (c.in-Err.ensures.write (same_fault _ _ is)).0

pub returns-in-Err-clause-partly : goal.returns-in-Err-clause-partly
returns-in-Err-clause-partly g c = λ is. steps_partly _ _ _ _ _ c.requires.outcomes (c.in-Err.ensures.write (same_fault _ _ is)).1

pub returns-in-Err-clause-memory : goal.returns-in-Err-clause-memory
returns-in-Err-clause-memory g c = λ is.
    let e = c.in-Err.ensures.memory (same_fault _ _ is) in
    steps_printed _ _ e.0 _ _ c.requires.outcomes e.1

pub returns-clause-ok : goal.returns-clause-ok
returns-clause-ok g c =
    let e = c.in-Ok.ensures.ok in
    on_ok c.print_finish-ended.result _ _ (λ f. finish_printed _ _ _ c.in-Ok.finish _ _ _ c.requires.outcomes e.1 e.0 f)
    c.print_finish-ended.ensures.ok

pub returns-clause-stopped : goal.returns-clause-stopped
returns-clause-stopped g c = λ fault is. absurd (c.print_finish-ended.ensures.stopped fault is)

pub returns-clause-write : goal.returns-clause-write
returns-clause-write g c = λ is. rose_later _ _ _ c.in-Ok.ensures.later (c.print_finish-ended.ensures.write is).0

pub returns-clause-partly : goal.returns-clause-partly
returns-clause-partly g c = λ is.
    let e = c.in-Ok.ensures.ok in
    let f = (c.print_finish-ended.ensures.write is).1 in
    finish_partly _ _ _ c.in-Ok.finish f.0 _ _ _ c.requires.outcomes e.1 e.0 f.1

pub returns-clause-memory : goal.returns-clause-memory
returns-clause-memory g c = λ is.
    let e = c.in-Ok.ensures.ok in
    subst (λ (o : Option (List ℕ)). PathPrinted c.args.db.now c.args.walk.job Memory (g.K.Sink.written c.args.out.now) o)
    (sym (c.print_finish-ended.ensures.memory is))
    (steps_printed _ _ _ _ _ c.requires.outcomes e.1)

pub returns-clause-later : goal.returns-clause-later
returns-clause-later g c = omega (arith, c.in-Ok.ensures.later, c.print_finish-ended.ensures.later)
