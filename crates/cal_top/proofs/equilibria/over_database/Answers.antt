use Rattle.std.proofs.Common.{◌≡◌, ap}
use Rattle.std.specs.Map.{keys_of}
use Rattle.cef_core.specs.declared.system.System.{System}
use Rattle.cal_select.specs.Selection.{system_of}
use Rattle.cal_top.specs.Equilibria.{refused, selected}
use Rattle.cal_top.proofs.Asking.{are_asked}
use Rattle.cal_select.proofs.Valuing.{a_valuation}
use Rattle.cal_top.proofs.equilibria.over_database.Goals as goal

pub over_system-requires-clause-asked : goal.over_system-requires-clause-asked
over_system-requires-clause-asked c =
    let v = a_valuation c.args.db.now.functions c.args.request.now.job.t (λ ranged is. c.some_outcome.ensures c.args.db.now.functions c.args.request.now.job.t ranged c.requires.functions is) in
    let same : c.in-Ok.system ≡ system_of v.0 c.args.db.now c.args.request.now.job = (c.in-Ok.ensures.answers v.0 v.1).1 in
    are_asked c.args.request.now c.in-Ok.system (keys_of c.args.db.now.elements) c.requires.request (ap (λ (s : System). s.elements) same) c.in-Ok.ensures.keeps.elements.present

pub returns-in-Ok : goal.returns-in-Ok
returns-in-Ok c = selected c.in-Ok.system c.in-Ok.ensures.answers c.in_ok-reply-in-Ok.ensures

pub returns : goal.returns
returns c =
    refused c.in-Err.fault (record { no_want = c.in_ok-reply-in-Err.ensures.want; first = c.in-Err.ensures.answers }) c.in_ok-reply-in-Err.ensures.status c.in_ok-reply-in-Err.ensures.text
