use Rattle.tdb_read.proofs.Once.{one_database, one_fault, database_or_fault}
use Rattle.tdb_read.proofs.laws.one_outcome.Goals as goal

pub returns-clause-database : goal.returns-clause-database
returns-clause-database c = one_database

pub returns-clause-fault : goal.returns-clause-fault
returns-clause-fault c = one_fault

pub returns-clause-apart : goal.returns-clause-apart
returns-clause-apart c = database_or_fault
