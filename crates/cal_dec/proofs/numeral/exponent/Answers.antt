use Rattle.std.proofs.Common.{arith}
use Rattle.cal_dec.proofs.Spelling.{all_digits-test}
use Rattle.cal_dec.proofs.numeral.exponent.Goals as goal

pub capped_value-magnitude-requires : goal.capped_value-magnitude-requires
capped_value-magnitude-requires c = all_digits-test c.split_sign-negative.result.1.now (let h = c.if-not-are_digits.false in let e = c.are_digits.ensures in grind arith)
