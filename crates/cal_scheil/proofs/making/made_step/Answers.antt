use Rattle.cal_select.proofs.Valuing.{ranged_functions}
use Rattle.cal_scheil.proofs.Elements.{same_elements}
use Rattle.cal_scheil.proofs.Outcomes.{if_ok, if_err}
use Rattle.cal_scheil.proofs.Faults.{unsolved_fault}
use Rattle.cal_scheil.proofs.making.made_step.Goals as goal

pub made_over-requires-clause-same_elements : goal.made_over-requires-clause-same_elements
made_over-requires-clause-same_elements c =
    same_elements c.args.db.now c.args.job.now.job c.in-Ok.system c.some_outcome.ensures (ranged_functions c.args.db.now.functions c.soundness.ensures.functions) c.in-Ok.ensures.system.selected

pub returns-in-Ok-clause-makes : goal.returns-in-Ok-clause-makes
returns-in-Ok-clause-makes c =
    if_ok _ _ c.made_over.result
    (λ made is. record { system = c.in-Ok.system; system_is = c.in-Ok.ensures.system; answers = is.answers; left_is = is.left_is; moves = is.moves })
    c.made_over.ensures.makes

pub returns-in-Ok-clause-fault : goal.returns-in-Ok-clause-fault
returns-in-Ok-clause-fault c =
    if_err _ _ c.made_over.result (λ fault is. unsolved_fault c.args.db.now c.args.job.now c.args.account.now c.in-Ok.system c.in-Ok.ensures.system fault is) c.made_over.ensures.fault

pub returns-in-Err-clause-fault : goal.returns-in-Err-clause-fault
returns-in-Err-clause-fault c = c.in-Err.ensures.fault c.args.account.now
