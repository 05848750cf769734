use Rattle.eq_solve.specs.Knowing.{IsPlaceOf, kept, added}
use Rattle.eq_solve.proofs.known.Known.with.Goals as goal

pub returns-in_ok-known : goal.returns-in_ok-known
returns-in_ok-known c =
    let place_is : IsPlaceOf c.args.self.entries.items c.args.point.entry c.place_of-place.result = rw c.deref.ensures.value at c.place_of-place.ensures in
    let first = rw c.deref-2.ensures.value at c.if-admits.ensures.yes in
    added c.place_of-place.result c.in_ok-known.known place_is first c.in_ok-known.ensures.entries c.in_ok-known.ensures.columns

pub returns-else-admits : goal.returns-else-admits
returns-else-admits c =
    let place_is : IsPlaceOf c.args.self.entries.items c.args.point.entry c.place_of-place.result = rw c.deref.ensures.value at c.place_of-place.ensures in
    kept c.place_of-place.result place_is (rw c.deref-2.ensures.value at c.if-admits.ensures.no)
