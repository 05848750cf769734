use Rattle.std.proofs.Common.{rules, ◌≡◌, ◌≤◌, ◌<◌, ◌+◌, ◌++◌, arith, ◌∙◌, sym, ap, refl, subst, length, IfOk}
use Rattle.cef_term.proofs.Lists.{place_room, place_more, mixed_more}
use Rattle.cef_term.proofs.placing.+place_lists.Goals as goal

pub place_list-requires : goal.place_list-requires
place_list-requires t c =
    rw c.as_slice.ensures (place_room c.args.from c.args.sites.now c.in-Some.rows.now c.args.array.now c.in-Some-split_first.lists.now c.in-Some.row.now c.in-Some-split_first.list.now c.in-Some.ensures.cases.0 c.in-Some-split_first.ensures.cases.0 c.requires.sites c.requires.array)

pub returns-in_ok-next-in-Some-split_first-clause-places : goal.returns-in_ok-next-in-Some-split_first-clause-places
returns-in_ok-next-in-Some-split_first-clause-places t c =
    let next = rw c.as_slice.ensures at c.in_ok-next-in-Some-split_first.ensures.places in
    subst (λ z. IfOk c.place_lists.result (λ p. p.places.items ≡ z))
    (place_more c.args.from _ c.args.sites.now c.in-Some.rows.now c.args.array.now c.in-Some-split_first.lists.now c.in-Some.row.now c.in-Some-split_first.list.now c.args.before.places.items c.in_ok-next-in-Some-split_first.next.places.items c.in-Some.ensures.cases.0 c.in-Some-split_first.ensures.cases.0 (omega (arith, c.len.ensures)) next)
    c.place_lists.ensures.places

pub returns-in_ok-next-in-Some-split_first-clause-mixed : goal.returns-in_ok-next-in-Some-split_first-clause-mixed
returns-in_ok-next-in-Some-split_first-clause-mixed t c =
    let next = rw c.as_slice.ensures at c.in_ok-next-in-Some-split_first.ensures.mixed in
    subst (λ z. IfOk c.place_lists.result (λ p. p.mixed ≡ z))
    (mixed_more c.args.from _ c.args.sites.now c.in-Some.rows.now c.args.array.now c.in-Some-split_first.lists.now c.in-Some.row.now c.in-Some-split_first.list.now c.args.before.mixed c.in_ok-next-in-Some-split_first.next.mixed c.in-Some.ensures.cases.0 c.in-Some-split_first.ensures.cases.0 (omega (arith, c.len.ensures)) next)
    c.place_lists.ensures.mixed
