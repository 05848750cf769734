use Rattle.cef_term.proofs.Rooms.{divisor-room}
use Rattle.cef_term.proofs.divisor.divisor_of.Goals as goal

pub power_of_parts-requires-clause-room : goal.power_of_parts-requires-clause-room
power_of_parts-requires-clause-room c = (divisor-room c.args.n c.args.count c.args.form _ c.requires.some c.requires.room).0

pub most_of-requires-clause-room : goal.most_of-requires-clause-room
most_of-requires-clause-room c = (divisor-room c.args.n c.args.count c.args.form _ c.requires.some c.requires.room).1
