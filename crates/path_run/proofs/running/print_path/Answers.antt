use Rattle.std.proofs.Common.{◌≡◌, ℕ, List, [], Option, ap, sym, ◌∙◌, subst}
use Rattle.std.specs.Prelude.{OnOk}
use Rattle.cal_base.specs.declared.status.Status.TheVariants.{Done}
use Rattle.cal_scheil.specs.declared.job.PathJob.{PathJob}
use Rattle.cal_scheil.specs.Walks.{WalkState, walk_of}
use Rattle.path_run.specs.Outputs.{PathPrinted, PathPrintedPartly}
use Rattle.path_run.specs.Workings.{HasMade, IsStopped}
use Rattle.path_run.proofs.Making.{made_first}
use Rattle.path_run.proofs.Printing.{printed_none}
use Rattle.path_run.proofs.Replying.{steps_printed}
use Rattle.path_run.proofs.running.print_path.Goals as goal

pub print_walk-ended-requires-clause-first : goal.print_walk-ended-requires-clause-first
print_walk-ended-requires-clause-first g c =
    subst (λ (w : WalkState). HasMade c.args.db.now w.job [] w) (sym c.in-Ok-begun.ensures) (made_first c.args.db.now c.args.job c.requires.job)

pub returns-in-Err-clause-memory : goal.returns-in-Err-clause-memory
returns-in-Err-clause-memory g c = λ is.
    steps_printed _ _ (walk_of c.args.job) _ _ c.requires.outcomes
    (printed_none c.args.db.now c.args.job (walk_of c.args.job) (g.K.Sink.written c.args.out.now)
    (made_first c.args.db.now c.args.job c.requires.job))

pub returns-in-Err-begun-clause-memory : goal.returns-in-Err-begun-clause-memory
returns-in-Err-begun-clause-memory g c = λ is.
    steps_printed _ _ (walk_of c.args.job) _ _ c.requires.outcomes
    (printed_none c.args.db.now c.args.job (walk_of c.args.job) (g.K.Sink.written c.args.out.now)
    (made_first c.args.db.now c.args.job c.requires.job))

pub returns-clause-ok : goal.returns-clause-ok
returns-clause-ok g c =
    let same = ap (λ (w : WalkState). w.job) c.in-Ok-begun.ensures in
    subst (λ (j : PathJob). OnOk c.print_walk-ended.result
    (PathPrinted c.args.db.now j Done (g.K.Sink.written c.args.out.now) (g.K.Sink.written c.print_walk-ended.new.out)))
    same c.print_walk-ended.ensures.ok

pub returns-clause-stopped : goal.returns-clause-stopped
returns-clause-stopped g c = λ fault is.
    let same = ap (λ (w : WalkState). w.job) c.in-Ok-begun.ensures in
    subst (λ (j : PathJob). IsStopped c.args.db.now j fault (g.K.Sink.written c.args.out.now) (g.K.Sink.written c.print_walk-ended.new.out)) same
    (c.print_walk-ended.ensures.stopped fault is)

pub returns-clause-partly : goal.returns-clause-partly
returns-clause-partly g c = λ is.
    let same = ap (λ (w : WalkState). w.job) c.in-Ok-begun.ensures in
    subst (λ (j : PathJob). PathPrintedPartly c.args.db.now j (g.K.Sink.written c.args.out.now) (g.K.Sink.written c.print_walk-ended.new.out)) same
    (c.print_walk-ended.ensures.partly is)
