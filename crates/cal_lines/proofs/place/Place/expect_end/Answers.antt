use Rattle.std.proofs.Common.{sym}
use Rattle.cal_lines.proofs.Wholes.{not_ended}
use Rattle.cal_lines.proofs.place.Place.expect_end.Goals as goal

pub returns-else-is_empty : goal.returns-else-is_empty
returns-else-is_empty c = not_ended c.args.self.number c.args.self.rest.now (sym c.if-is_empty.ensures)
