use Rattle.tdb_forms.specs.Numbers.{IsReadable}
use Rattle.tdb_read.proofs.Found.{at_none}
use Rattle.tdb_read.proofs.Types.{magnetic_first, magnetic_second}
use Rattle.tdb_read.proofs.type_definition.magnetic.Goals as goal

pub returns-in-None : goal.returns-in-None
returns-in-None c = magnetic_first c.args.words.now _ (at_none _ c.readable.result c.readable.ensures c.in-None.is)

pub returns-in-None-readable : goal.returns-in-None-readable
returns-in-None-readable c = magnetic_second c.args.words.now _ (at_none _ c.readable-in-Some.result c.readable-in-Some.ensures c.in-None-readable.is)
