use Rattle.std.proofs.Common.{◌≡◌, ◌+◌, ◌-◌, ◌∙◌, ap, sym, subst, rules, refl}
use Rattle.cef_path.specs.Finishing.{FinishIs}
use Rattle.cal_scheil.specs.declared.step.Stepped.{Stepped}
use Rattle.cal_scheil.specs.Walks.{path_job_at, start_of, WalkState, IsWalk}
use Rattle.cal_scheil.specs.Steps.{job_of, Makes, Takes}
use Rattle.cal_scheil.specs.Workings.{IsNext}
use Rattle.cal_scheil.proofs.Walking.{walk_on}
use Rattle.cal_scheil.proofs.walk.Walk.step.Goals as goal

pub invariant_of-self : goal.invariant_of-self
invariant_of-self c =
    let inside = c.self.inside in
    let made = c.in-Ok.field-0 in
    let before : WalkState = record { job = path_job_at inside.job inside.began; t = inside.job.job.t; account = inside.account; steps = inside.steps; finish = inside.finish } in
    let after : WalkState = record { job = path_job_at inside.job inside.began; t = c.saturating_sub-self-inside.result; account = made.account; steps = inside.steps + 1; finish = c.finish_of-finish.result } in
    let makes : Makes c.args.db.now (job_of before) before.account made.report made.left made.account = subst (λ (w : WalkState). Makes c.args.db.now (job_of w) w.account made.report made.left made.account) (sym c.self.view_is) c.in-Ok.ensures.makes in
    let next : IsNext (path_job_at before.job before.t) made.account made.left = subst (λ (w : WalkState). IsNext (job_of w) made.account made.left) (sym c.self.view_is) c.in-Ok.ensures.next in
    let finish_is : FinishIs (start_of before.job made.account.asked) before.t made.left c.finish_of-finish.result = rw (c.as_slice.ensures, c.as_slice-in-Ok.ensures) at c.finish_of-finish.ensures in
    let lower : after.t ≡ before.t - before.job.descent = search rules in
    walk_on before after made.left c.self.invariant (ap (λ (w : WalkState). w.finish) c.self.view_is ∙ c.requires.unfinished) next finish_is makes.moves.remains_are refl lower refl

pub returns-in-Ok-clause-takes : goal.returns-in-Ok-clause-takes
returns-in-Ok-clause-takes c =
    let inside = c.self.inside in
    let made = c.in-Ok.field-0 in
    let before : WalkState = record { job = path_job_at inside.job inside.began; t = inside.job.job.t; account = inside.account; steps = inside.steps; finish = inside.finish } in
    let after : WalkState = record { job = path_job_at inside.job inside.began; t = c.saturating_sub-self-inside.result; account = made.account; steps = inside.steps + 1; finish = c.finish_of-finish.result } in
    let step : Stepped = record { report = made.report; left = made.left; finish = c.finish_of-finish.result } in
    let makes : Makes c.args.db.now (job_of before) before.account made.report made.left made.account = subst (λ (w : WalkState). Makes c.args.db.now (job_of w) w.account made.report made.left made.account) (sym c.self.view_is) c.in-Ok.ensures.makes in
    let finish_is : FinishIs (start_of before.job made.account.asked) before.t made.left c.finish_of-finish.result = rw (c.as_slice.ensures, c.as_slice-in-Ok.ensures) at c.finish_of-finish.ensures in
    let lower : after.t ≡ before.t - before.job.descent = search rules in
    let takes : Takes c.args.db.now before step after = record { makes = makes; finish_is = finish_is; same_job = refl; lower = lower; one_more = refl; same_finish = refl } in
    subst (λ (w : WalkState). Takes c.args.db.now w step after) c.self.view_is takes

pub returns-in-Ok-clause-keeps : goal.returns-in-Ok-clause-keeps
returns-in-Ok-clause-keeps c = invariant_of-self c
