use Rattle.tdb_read.specs.TypeDefinition.{IsTypeDefinition}
use Rattle.tdb_read.proofs.Found.{at_some}
use Rattle.tdb_read.proofs.Forms.{type_fine}
use Rattle.tdb_read.proofs.type_definition.enter_type_definition.Goals as goal

pub enter_type-requires : goal.enter_type-requires
enter_type-requires c =
    type_fine c.args.line c.args.text.now c.in-Some.text (at_some (IsTypeDefinition c.args.line c.args.text.now) c.in_ok-found.found c.in-Some.text c.in_ok-found.ensures c.in-Some.is)
