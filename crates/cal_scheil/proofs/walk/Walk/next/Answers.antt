use Rattle.std.proofs.Common.{◌≡◌, ap, ◌∙◌, subst}
use Rattle.std.specs.Prelude.{IfOk, IfErr}
use Rattle.cal_scheil.specs.Walks.{path_job_at, WalkState}
use Rattle.cal_scheil.specs.Steps.{job_of, Makes, IsStepFault}
use Rattle.cal_scheil.specs.Workings.{IsNext}
use Rattle.cal_scheil.proofs.Walking.{can_step}
use Rattle.cal_scheil.proofs.walk.Walk.next.Goals as goal

pub made_step-requires-clause-can : goal.made_step-requires-clause-can
made_step-requires-clause-can c =
    let inside = c.self.inside in
    let state : WalkState = record { job = path_job_at inside.job inside.began; t = inside.job.job.t; account = inside.account; steps = inside.steps; finish = inside.finish } in
    can_step state c.self.invariant (ap (λ (w : WalkState). w.finish) c.self.view_is ∙ c.requires.unfinished)

pub returns-clause-makes : goal.returns-clause-makes
returns-clause-makes c =
    subst (λ (w : WalkState). IfOk c.made_step.result (λ made. Makes c.args.db.now (job_of w) w.account made.report made.left made.account)) c.self.view_is c.made_step.ensures.makes

pub returns-clause-next : goal.returns-clause-next
returns-clause-next c = subst (λ (w : WalkState). IfOk c.made_step.result (λ made. IsNext (job_of w) made.account made.left)) c.self.view_is c.made_step.ensures.next

pub returns-clause-fault : goal.returns-clause-fault
returns-clause-fault c = subst (λ (w : WalkState). IfErr c.made_step.result (λ fault. IsStepFault c.args.db.now (job_of w) w.account fault)) c.self.view_is c.made_step.ensures.fault
