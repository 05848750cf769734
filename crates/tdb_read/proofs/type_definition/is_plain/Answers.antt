use Rattle.tdb_read.proofs.Types.{plain_first, plain_second}
use Rattle.tdb_read.proofs.type_definition.is_plain.Goals as goal

pub returns-then-major : goal.returns-then-major
returns-then-major c = plain_first c.in_ok-major.major c.in_ok-sets.sets _ _ c.in_ok-major.ensures c.if-major.true

pub returns-else-major : goal.returns-else-major
returns-else-major c = plain_second c.in_ok-major.major c.in_ok-sets.sets _ _ c.in_ok-major.ensures c.in_ok-sets.ensures c.if-major.false
