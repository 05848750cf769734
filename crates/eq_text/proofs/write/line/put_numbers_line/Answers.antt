use Rattle.eq_text.proofs.Spaced.{numbers_written}
use Rattle.eq_text.proofs.write.line.put_numbers_line.Goals as goal

pub returns : goal.returns
returns c = numbers_written c.args.key.now c.args.numbers.now c.numbers.number-index _ _ _ c.numbers-test.false c.numbers.invariant c.in_ok-push.ensures.items
