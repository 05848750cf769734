use Rattle.std.proofs.Common.{◌*◌, ◌^◌, arith}
use Rattle.cef_term.proofs.Rooms.{product_at-front, product_at-room}
use Rattle.cef_term.proofs.wide.product_of.Goals as goal

pub overflow_mul-total : goal.overflow_mul-total
overflow_mul-total c =
    let room = product_at-room (3 * 2 ^ 70) c.args.counts.now c.args.places.now c.each.i c.requires c.each-test.true in
    rw (c.each.invariant, c.from-total.ensures, c.from.ensures) (omega (arith, room))

pub returns-clause-small : goal.returns-clause-small
returns-clause-small c = rw c.each.invariant (product_at-front (3 * 2 ^ 70) c.args.counts.now c.args.places.now c.each.i c.requires)
