use Rattle.std.proofs.Common.{get_or, arith}
use Rattle.std.proofs.lemmas.Int.Digits.{digits_value_more}
use Rattle.std.proofs.lemmas.Str.Parse.{digit_at}
use Rattle.cal_dec.specs.Digits.{digit_value-is}
use Rattle.cal_dec.proofs.numeral.capped_value.Goals as goal

pub overflow_sub-b : goal.overflow_sub-b
overflow_sub-b c = let range = digit_at c.args.digits.now c.digits.b-index c.requires (omega arith) in omega arith

pub digits-preserved : goal.digits-preserved
digits-preserved c =
    let range = digit_at c.args.digits.now c.digits.b-index c.requires (omega arith) in
    let digit = digit_value-is (get_or c.args.digits.now c.digits.b-index 0) (omega arith) (omega arith) in
    let more = digits_value_more 10 c.args.digits.now c.digits.b-index (omega arith) in
    record { so_far = omega arith; cap = omega arith }
