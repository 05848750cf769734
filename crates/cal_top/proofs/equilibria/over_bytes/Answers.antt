use Rattle.std.proofs.Common.{◌≡◌, subst}
use Rattle.cal_select.proofs.Valuing.{ranged_functions}
use Rattle.cal_top.specs.declared.texts.Opened.{Opened}
use Rattle.cal_top.specs.Texts.{database}
use Rattle.cal_top.specs.Equilibria.{FromDatabase}
use Rattle.cal_top.specs.Opening.{IsOpened}
use Rattle.cal_top.proofs.Replying.{bad_over}
use Rattle.cal_top.proofs.equilibria.over_bytes.Goals as goal

pub returns-in-Refused : goal.returns-in-Refused
returns-in-Refused c =
    bad_over c.args.bytes.now (λ db. FromDatabase db c.args.request.now) c.in-Refused.reply (subst (λ (o : Opened). IsOpened c.args.bytes.now o) c.in-Refused.is c.in_ok-opened.ensures)

pub over_database-requires-clause-functions : goal.over_database-requires-clause-functions
over_database-requires-clause-functions c = rw (← c.db.view_is) (ranged_functions c.db.inside.functions.entries c.db.invariant.functions)

pub returns-in_ok-reply-in-Database : goal.returns-in_ok-reply-in-Database
returns-in_ok-reply-in-Database c =
    database c.in-Database.db (subst (λ (o : Opened). IsOpened c.args.bytes.now o) c.in-Database.is c.in_ok-opened.ensures) c.in_ok-reply-in-Database.ensures
