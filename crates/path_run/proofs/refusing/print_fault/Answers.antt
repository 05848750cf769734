use Rattle.std.proofs.Common.{◌≡◌, ℕ, List, ap, ◌∙◌}
use Rattle.cal_base.specs.Outside.{append_told}
use Rattle.path_run.specs.Workings.{with_text}
use Rattle.path_run.proofs.refusing.print_fault.Goals as goal

pub returns-clause-ok : goal.returns-clause-ok
returns-clause-ok g c = λ fine.
    with_text c.in-Ok.refusal.text.items c.in-Ok.ensures
    (c.in-Ok-write_all.ensures.ok ∙ ap (λ (t : List ℕ). append_told (g.K.Sink.written c.args.out.now) t) c.as_slice.ensures.value)
