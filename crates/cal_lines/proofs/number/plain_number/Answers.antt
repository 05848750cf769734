use Rattle.std.proofs.Common.{sym, arith}
use Rattle.cal_lines.proofs.Numbers.{natural_none, natural_large, natural_some}
use Rattle.cal_lines.proofs.number.plain_number.Goals as goal

pub returns-then-not-is_plain : goal.returns-then-not-is_plain
returns-then-not-is_plain c = natural_none c.args.limit c.args.word.now (sym c.if-not-is_plain.ensures)

pub returns-then-value-limit : goal.returns-then-value-limit
returns-then-value-limit c = natural_large c.args.limit c.capped_value-value.result c.args.word.now c.capped_value-value.ensures (omega (arith, c.if-value-limit.true))

pub returns-else-value-limit : goal.returns-else-value-limit
returns-else-value-limit c = natural_some c.args.limit c.capped_value-value.result c.args.word.now (sym c.if-not-is_plain.ensures) c.capped_value-value.ensures (omega (arith, c.if-value-limit.false))
