use Rattle.tdb_read.proofs.Folds.{behind_start, behind_next, behind_fault, behind_open, behind_closed}
use Rattle.tdb_read.proofs.reading.fold.Goals as goal

pub commands-init : goal.commands-init
commands-init c = rw c.new-db.ensures (behind_start c.args.list.now c.args.unfinished)

pub returns-in-Err : goal.returns-in-Err
returns-in-Err c = behind_fault c.commands.db c.in-Err.fault c.commands.i c.args.list.now c.index-list-i.result c.args.unfinished c.commands-test.true c.index-list-i.is c.in-Err.ensures c.commands.invariant

pub commands-preserved : goal.commands-preserved
commands-preserved c = behind_next c.commands.db c.in-Ok.next c.commands.i c.args.list.now c.index-list-i.result c.args.unfinished c.commands-test.true c.index-list-i.is c.in-Ok.ensures c.commands.invariant

pub returns-in-Some : goal.returns-in-Some
returns-in-Some c = behind_open c.commands.db c.commands.i c.args.list.now c.args.unfinished c.in-Some.line c.commands-test.false c.in-Some.is c.commands.invariant

pub returns-in-None : goal.returns-in-None
returns-in-None c = behind_closed c.commands.db c.commands.i c.args.list.now c.args.unfinished c.commands-test.false c.in-None.is c.commands.invariant
