use Rattle.std.proofs.Common.{◌≡◌, Some, sym, ap, arith}
use Rattle.cal_scan.specs.Numbers.{digits_value, whole}
use Rattle.cal_scan.proofs.Values.{uncapped, whole_below}
use Rattle.cal_scan.proofs.digits.whole.Goals as goal

pub returns-clause-value : goal.returns-clause-value
unfolding whole
returns-clause-value c =
    let on = sym c.if-not-is_whole_number.ensures in
    let value : c.capped_value-value.result ≡ digits_value c.args.text.now = uncapped c.args.most _ c.args.text.now c.requires on c.capped_value-value.ensures in
    rw on (ap Some value)

pub returns-clause-bound : goal.returns-clause-bound
returns-clause-bound c =
    let on = sym c.if-not-is_whole_number.ensures in
    let value = uncapped c.args.most _ c.args.text.now c.requires on c.capped_value-value.ensures in
    omega (arith, value, whole_below c.args.most c.args.text.now on)
