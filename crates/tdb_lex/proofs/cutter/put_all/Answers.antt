use Rattle.tdb_lex.proofs.Cuts.{bytes_on, bytes_end}
use Rattle.tdb_lex.proofs.cutter.put_all.Goals as goal

pub bytes-preserved : goal.bytes-preserved
bytes-preserved c = bytes_on c.args.cutter c.bytes.now _ c.args.line c.bytes.byte-index _ c.args.bytes.now c.bytes-test.true c.clean_byte.ensures c.in_ok-now.ensures c.bytes.invariant

pub returns : goal.returns
returns c = bytes_end c.args.cutter c.bytes.now c.args.line c.bytes.byte-index c.args.bytes.now c.bytes-test.false c.bytes.invariant
