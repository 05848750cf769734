use Rattle.std.proofs.Common.{sym, subst}
use Rattle.tdb_expr.specs.declared.ranged.Ranged.{Ranged}
use Rattle.tdb_expr.specs.Forms.{IsRanged}
use Rattle.cef_core.specs.Systems.{IsSystem}
use Rattle.cal_select.proofs.Valuing.{a_valuation, ranged_functions}
use Rattle.cal_select.proofs.System_keeps.{system_keeps}
use Rattle.cal_select.proofs.selecting.system.Goals as goal

pub returns-in-Ok-clause-keeps : goal.returns-in-Ok-clause-keeps
returns-in-Ok-clause-keeps c =
    let db = c.args.db.now in
    let job = c.args.job.now in
    let law = λ (ranged : Ranged) (is : IsRanged ranged). c.some_outcome.ensures db.functions job.t ranged (ranged_functions db.functions c.soundness.ensures.functions) is in
    let valued = a_valuation db.functions job.t law in
    let gives = c.in-Ok.ensures valued.0 valued.1 in
    subst IsSystem (sym gives.1) (system_keeps valued.0 db job c.requires.job c.soundness.ensures c.element_count-elements.ensures.distinct c.phase_count-phases.ensures.distinct gives.0)
