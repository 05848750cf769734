use Rattle.tdb_expr.specs.Forms.{IsRanged}
use Rattle.tdb_read.specs.Parameter.{IsParameter}
use Rattle.tdb_read.proofs.Found.{at_some, if_some}
use Rattle.tdb_read.proofs.Forms.{parameter_fine}
use Rattle.tdb_read.proofs.parameter.enter_parameter.Goals as goal

pub enter_parameter-requires : goal.enter_parameter-requires
enter_parameter-requires c =
    parameter_fine c.args.line c.args.text.now c.in-Some.key c.in-Some.text
    (at_some (IsParameter c.args.line c.args.text.now) c.in_ok-found.found (c.in-Some.key, c.in-Some.text) c.in_ok-found.ensures.value c.in-Some.is)
    (if_some (λ p. IsRanged p.1.ranged) c.in_ok-found.found (c.in-Some.key, c.in-Some.text) c.in_ok-found.ensures.form c.in-Some.is)
