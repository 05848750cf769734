use Rattle.std.proofs.Common.{rules}
use Rattle.cal_scan.proofs.Values.{grows_on, grows_end}
use Rattle.cal_scan.proofs.digits.capped_value.Goals as goal

pub digits-preserved : goal.digits-preserved
digits-preserved c = grows_on c.args.cap c.digits.value c.min-value.result c.digits.digit-index c.args.digits.now _ c.digits-test.true (search rules) c.digits.invariant

pub returns : goal.returns
returns c = grows_end c.args.cap c.digits.value c.digits.digit-index c.args.digits.now _ c.digits-test.false c.digits.invariant
