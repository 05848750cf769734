use Rattle.std.proofs.Common.{rules, ◌^◌, length}
use Rattle.cef_minor.proofs.Steps.{fewer_room}
use Rattle.cef_minor.proofs.product.+product_in.Goals as goal

pub product_in-rest-requires : goal.product_in-rest-requires
product_in-rest-requires t c =
    let e = c.in-Some.ensures.cases.0 in
    let within = rw e at c.requires.within in
    let room = rw e at c.requires.room in
    (search rules, (c.requires.some, (within.1, (c.requires.counts, fewer_room c.args.parts (length c.in-Some.later.now) (2 ^ 100) c.requires.some room))))
