use Rattle.std.proofs.Common.{◌≡◌, ◌+◌, ◌-◌, ℕ, ap, sym, ◌∙◌, subst, List}
use Rattle.cal_base.specs.Outside.{append_told, AppendsAllBut}
use Rattle.cal_scheil.specs.Walked.{numbered}
use Rattle.path_run.specs.Workings.{piece}
use Rattle.path_run.proofs.Texts.{piece_is}
use Rattle.path_run.proofs.stepping.print_step.Goals as goal

pub returns-in-Err-write_all-clause-write : goal.returns-in-Err-write_all-clause-write
returns-in-Err-write_all-clause-write g c = λ is.
    let before = c.args.walk.now in
    let some = c.in-Err-write_all.ensures.err in
    let number : c.steps_taken-number.result ≡ before.steps + 1 = c.steps_taken-number.ensures.value ∙ c.in-Ok.ensures.takes.one_more in
    let text : c.as_slice-in-Ok-text.result.now ≡ piece c.args.head.now before.steps (numbered (before.steps + 1) 0 c.in-Ok.step) =
    c.as_slice-in-Ok-text.ensures.value ∙ c.in-Ok-text.ensures
    ∙ piece_is c.args.head.now before.steps c.steps_taken-number.result c.in-Ok.step c.as_slice.result.now number c.as_slice.ensures in (
      c.in-Err-write_all.ensures.cause,
      record {
        step = c.in-Ok.step;
        takes = c.in-Ok.ensures.takes;
        keeps = c.in-Ok.ensures.keeps;
        rest = some.0;
        appended = subst (λ (t : List ℕ). AppendsAllBut some.0 (g.K.Sink.written c.args.out.now) (g.K.Sink.written c.write_all.new.out) t)
            text some.1;
      },
    )

pub returns-clause-ok : goal.returns-clause-ok
returns-clause-ok g c =
    let before = c.args.walk.now in
    let number : c.steps_taken-number.result ≡ before.steps + 1 = c.steps_taken-number.ensures.value ∙ c.in-Ok.ensures.takes.one_more in
    let text : c.as_slice-in-Ok-text.result.now ≡ piece c.args.head.now before.steps (numbered (before.steps + 1) 0 c.in-Ok.step) =
    c.as_slice-in-Ok-text.ensures.value ∙ c.in-Ok-text.ensures
    ∙ piece_is c.args.head.now before.steps c.steps_taken-number.result c.in-Ok.step c.as_slice.result.now number c.as_slice.ensures in (
      sym c.in-Ok.ensures.takes.same_finish,
      record {
        step = c.in-Ok.step;
        takes = c.in-Ok.ensures.takes;
        keeps = c.in-Ok.ensures.keeps;
        appended = c.in-Ok-write_all.ensures.ok ∙ ap (λ (t : List ℕ). append_told (g.K.Sink.written c.args.out.now) t) text;
      },
    )
