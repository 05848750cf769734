use Rattle.eq_cert.proofs.Ready.{no_place}
use Rattle.eq_cert.proofs.node.parts_of.Goals as goal

pub returns-then-place-places : goal.returns-then-place-places
returns-then-place-places c = no_place c.args.range.now c.args.place c.args.cut c.places.result c.places.ensures c.if-place-places.true
