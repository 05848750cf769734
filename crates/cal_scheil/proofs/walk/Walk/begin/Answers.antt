use Rattle.std.proofs.Common.{◌≡◌, rules, subst, sym, None}
use Rattle.cal_scheil.specs.declared.account.Account.{Account}
use Rattle.cal_scheil.specs.Walks.{path_job_at, WalkState, walk_of, IsWalk}
use Rattle.cal_scheil.proofs.Walking.{begun}
use Rattle.cal_scheil.proofs.walk.Walk.begin.Goals as goal

pub invariant_of-result : goal.invariant_of-result
invariant_of-result c =
    let account : Account = record { names = c.in_ok-names.names; asked = c.in_ok-asked.asked; solids = c.in_ok-solids.solids; remains = c.in_ok-remains.remains; lost = c.in_ok-lost.lost } in
    let state : WalkState = record { job = path_job_at c.args.job c.args.job.job.t; t = c.args.job.job.t; account = account; steps = 0; finish = None } in
    let same : state ≡ walk_of c.args.job = search rules in
    subst IsWalk (sym same) (begun c.args.job c.requires)
